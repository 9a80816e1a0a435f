-- A queue weighs at most half as much as its text is long.
use Rattle.std.proofs.Common.{◌≡◌, ◌∙◌, sym, ap, subst, ℕ, suc, ◌+◌, ◌≤◌, List, [], ◌∷◌, ◌++◌, length, fold, length-append, arith, refl, Ok, Err, ◌*◌, ◌<◌, ◌==◌, true, false, if◌then◌else◌, Option, option_map, Some, None, append_assoc, append-nil, nat_cmp}
use Rattle.std.specs.List.{AllZip}
use Rattle.std.proofs.lemmas.Result.{MatchResult-at_err}
use Rattle.std.specs.Cmp.{nat_cmp_total}
use Rattle.std.proofs.lemmas.List.Sums.{sum_by-append, sum_by-cons}
use Rattle.jb_queue.specs.declared.fault.Cause.{Cause}
use Rattle.jb_queue.specs.declared.fault.Cause.TheVariants.{Memory, HandleLine}
use Rattle.jb_queue.specs.declared.fault.QueueFault.{QueueFault}
use Rattle.jb_handle.specs.declared.stopped.Stopped.{Stopped}
use Rattle.jb_text.specs.Parts.{lines, grow, words, read_first}
use Rattle.jb_queue.specs.Queue.{Gives, Reports, BeginsHandle, MayGrow, handle_of, after_lines, op_of, after_ops, behind_h}
use Rattle.jb_handle.specs.Word.{WordMap}
use Rattle.jb_handle.specs.Tickets.{TicketsFrom}
use Rattle.jb_handle.specs.declared.word.Word.{Word}
use Rattle.jb_handle.specs.Size.{weight}
use Rattle.std.proofs.lemmas.Option.{some_pair_parts}
use Rattle.jb_queue.proofs.Walks.{IsWalk, walk-says, walk-last, walk-first}
use Rattle.jb_queue.proofs.Ops.{put_op, ops-walk, tested}
use Rattle.std.specs.FinMap as map

-- ---- the handles of a queue, read line by line

-- the handles of a queue, with one of these words at the end
abbrev pub put_handle : List Stopped → WordMap → List Stopped
put_handle had words = had ++ record { ticket = length had; words = words } ∷ []

-- a fault of the line after theirs
abbrev pub on_next : List Stopped → Cause → QueueFault
on_next had cause = record { line = length had + 3; cause = cause }

pub lines-walk : (size : ℕ) → IsWalk (handle_of size) put_handle on_next (after_lines size)
unfolding after_lines
lines-walk size = record { ends = λ had. refl; goes = λ had line more words is. rw is refl; fails = λ had line more cause is. rw is refl }

pub put-length : (had : List Stopped) (each : List WordMap) → length (fold put_handle had each) ≡ length had + length each
put-length had [] = omega arith
put-length had (words ∷ each) = omega (arith, put-length (put_handle had words) each, length-append had (record { ticket = length had; words = words } ∷ []))

-- the handles that lines are read to
pub record ReadsLines (size : ℕ) (had now : List Stopped) (left : List (List ℕ)) : Type 0 where
  pub handles : List Stopped
  pub whole : now ≡ had ++ handles
  pub each : AllZip (λ line handle. handle_of size line ≡ Ok handle.words) left handles
  pub tickets : TicketsFrom (length had) handles

pub handles-are : (size : ℕ) (had now : List Stopped) (left : List (List ℕ)) → after_lines size had left ≡ Ok now → ReadsLines size had now left
handles-are size had now [] reads = record { handles = []; whole = sym (walk-last (lines-walk size) had now reads) ∙ sym (append-nil had); each = tt; tickets = tt }
handles-are size had now (line ∷ more) reads =
    let first = walk-first (lines-walk size) had now line more reads in
    let stopped : Stopped = record { ticket = length had; words = first.0 } in
    let further = handles-are size (had ++ stopped ∷ []) now more first.2 in
    record {
      handles = stopped ∷ further.handles;
      whole = further.whole ∙ append_assoc had (stopped ∷ []) further.handles;
      each = (first.1, further.each);
      tickets = (refl, subst (λ n. TicketsFrom n further.handles) (length-append had (stopped ∷ [])) further.tickets);
    }

-- a fault of further lines is not before them
lines-later : (size : ℕ) (had : List Stopped) (left : List (List ℕ)) (other : QueueFault) → after_lines size had left ≡ Err other → length had + 3 ≤ other.line
lines-later size had left other fails =
    let stops = MatchResult-at_err _ _ other fails (walk-says (lines-walk size) had left) in
    omega (arith, ap (λ (f : QueueFault). f.line) stops.1, put-length had stops.0.ys)

-- all lines give what those that are left do after the handles that were read, one a line
pub record LinesTo (size : ℕ) (all : List (List ℕ)) (had : List Stopped) (left : List (List ℕ)) : Type 0 where
  pub reads : after_lines size had left ≡ after_lines size [] all
  pub earlier : List (List ℕ)
  pub parts : all ≡ earlier ++ left
  pub count : length earlier ≡ length had

pub lines-none : (size : ℕ) (all : List (List ℕ)) → LinesTo size all [] all
lines-none size all = record { reads = refl; earlier = []; parts = refl; count = refl }

pub lines-all : {size : ℕ} {all : List (List ℕ)} {had : List Stopped} → LinesTo size all had [] → after_lines size [] all ≡ Ok had
lines-all {size} {all} {had} so = sym so.reads ∙ (lines-walk size).ends had

module _ {size : ℕ} {all : List (List ℕ)} {had : List Stopped} {line : List ℕ} {left : List (List ℕ)} (so : LinesTo size all had (line ∷ left)) where
  -- the handle of a line is pushed at those before it
  pub line-goes : (words : WordMap) → handle_of size line ≡ Ok words → LinesTo size all (put_handle had words) left
  line-goes words given = record {
    reads = sym ((lines-walk size).goes had line left words given) ∙ so.reads;
    earlier = so.earlier ++ line ∷ [];
    parts = so.parts ∙ sym (append_assoc so.earlier (line ∷ []) left);
    count = omega (arith, so.count, length-append so.earlier (line ∷ []), put-length had (words ∷ []));
  }

  -- a fault of a line is the first of the whole; `Memory` at it is before each fault that is left
  pub line-reports : (cause : Cause) → Gives {A = WordMap} (Err cause) (handle_of size line) → Reports (after_lines size [] all) (record { line = length had + 3; cause = cause })
  line-reports Memory given = λ other fails. lines-later size had (line ∷ left) other (so.reads ∙ fails)
  line-reports cause given = sym so.reads ∙ (lines-walk size).fails had line left cause given

  -- memory may run out at a line that begins as a handle's
  pub may-grow : BeginsHandle size line → MayGrow size all (length had + 3)
  may-grow begins = record { earlier = so.earlier; line = line; later = left; parts = so.parts; here = omega (arith, so.count); begins = begins }

-- ---- A queue weighs at most half as much as its text is long

-- the bytes of pieces, and one delimiter for each
abbrev pub total : List (List ℕ) → ℕ
total [] = 0
total (piece ∷ more) = length piece + 1 + total more

grow-total : (b n : ℕ) (pieces : List (List ℕ)) → total pieces ≤ n + 1 → total (grow b pieces) ≤ suc n + 1
grow-total b n [] within = omega arith
grow-total b n (piece ∷ more) within = omega arith

pub lines-total : (text : List ℕ) → total (lines text) ≤ length text + 1
unfolding lines
lines-total [] = omega arith
lines-total (b ∷ text) = elim (b == 10) as (λ t. total (if t then [] ∷ lines text else grow b (lines text)) ≤ length (b ∷ text) + 1) [
  | true ↦ omega (arith, lines-total text)
  | false ↦ grow-total b (length text) (lines text) (lines-total text)
]

words-total : (text : List ℕ) → total (words text) ≤ length text + 1
unfolding words
words-total [] = omega arith
words-total (b ∷ text) = elim (b == 32) as (λ t. total (if t then [] ∷ words text else grow b (words text)) ≤ length (b ∷ text) + 1) [
  | true ↦ omega (arith, words-total text)
  | false ↦ grow-total b (length text) (words text) (words-total text)
]

-- one word more makes at most one home more
len-insert-le : (had : WordMap) (home : ℕ) (word : Word) → map.len (map.insert had home word) ≤ map.len had + 1
len-insert-le had home word = grind (arith, map.len-insert nat_cmp_total had home word)

some-word : (size : ℕ) (text : List ℕ) (op : ℕ × Word) → op_of size text ≡ Ok op → 0 < length text
some-word size [] op is = cc
some-word size (b ∷ text) op is = omega arith

pub ops-weight : (size : ℕ) (had : WordMap) (texts : List (List ℕ)) (now : WordMap) → after_ops size had texts ≡ Ok now → 2 * map.len now ≤ 2 * map.len had + total texts
ops-weight size had [] now reads = omega (arith, ap map.len (walk-last (ops-walk size) had now reads))
ops-weight size had (text ∷ texts) now reads =
    let first = walk-first (ops-walk size) had now text texts reads in
    omega (arith, ops-weight size (put_op had first.0) texts now first.2, len-insert-le had first.0.0 first.0.1, some-word size text first.0 first.1)

no-words : map.len (map.empty {X = Word} {R = nat_cmp}) ≡ 0
no-words = map.len-empty nat_cmp Word

-- the words of a handle weigh no more than half of its line
pub handle-weight : (size : ℕ) (line : List ℕ) (now : WordMap) → handle_of size line ≡ Ok now → 2 * (map.len now + 1) ≤ length line + 1
handle-weight size [] now reads = cc
handle-weight size (b ∷ []) now reads =
    let empty = (tested (b == 104) HandleLine (Ok map.empty) now reads).1 in
    let same : map.empty {X = Word} {R = nat_cmp} ≡ now = cc in
    omega (arith, ap map.len same, no-words)
handle-weight size (b ∷ c ∷ text) now reads =
    let behind = (tested (b == 104) HandleLine (behind_h size (c ∷ text)) now reads).1 in
    let ops = (tested (c == 32) HandleLine (after_ops size map.empty (words text)) now behind).1 in
    omega (arith, ops-weight size map.empty (words text) now ops, no-words, words-total text)

pub lines-weight : (size : ℕ) (had : List Stopped) (left : List (List ℕ)) (now : List Stopped) → after_lines size had left ≡ Ok now → 2 * weight now ≤ 2 * weight had + total left
lines-weight size had [] now reads = omega (arith, ap weight (walk-last (lines-walk size) had now reads))
lines-weight size had (line ∷ more) now reads =
    let first = walk-first (lines-walk size) had now line more reads in
    let sums = sum_by-append (λ (h : Stopped). map.len h.words + 1) had (record { ticket = length had; words = first.0 } ∷ []) in
    omega (arith, lines-weight size (put_handle had first.0) more now first.2, handle-weight size line first.0 first.1, sums)

-- what is read of the first line leaves those after it
first-parts : {A : Type 0} (read : List ℕ → Option A) (all : List (List ℕ)) (x : A) (more : List (List ℕ))
    → ◌≡◌ {A = Option (A × List (List ℕ))} (Some (x, more)) (read_first read all) → (line : List ℕ) × (all ≡ line ∷ more)
first-parts read [] x more is = cc
first-parts {A = A} read (line ∷ rest) x more is = by (read line) is
  where
    by : (got : Option A) → ◌≡◌ {A = Option (A × List (List ℕ))} (Some (x, more)) (option_map (λ y. (y, rest)) got) → (first : List ℕ) × (line ∷ rest ≡ first ∷ more)
    by None gives = cc
    by (Some y) gives = (line, ap (λ ls. line ∷ ls) (sym (some_pair_parts x y more rest gives).1))

-- and so of the first two
pub two-parts : {A B : Type 0} (one : List ℕ → Option A) (other : List ℕ → Option B) (all second third : List (List ℕ)) (x : A) (y : B)
    → ◌≡◌ {A = Option (A × List (List ℕ))} (Some (x, second)) (read_first one all)
    → ◌≡◌ {A = Option (B × List (List ℕ))} (Some (y, third)) (read_first other second) → (line next : List ℕ) × (all ≡ line ∷ next ∷ third)
two-parts one other all second third x y is also =
    let first = first-parts one all x second is in
    let last = first-parts other second y third also in
    (first.0, last.0, first.1 ∙ ap (λ ls. first.0 ∷ ls) last.1)

-- the queue of a text weighs half of it at most
pub queue-weight : (size : ℕ) (handles : List Stopped) (text line next : List ℕ) (third : List (List ℕ)) → lines text ≡ line ∷ next ∷ third
    → after_lines size [] third ≡ Ok handles → 2 * weight handles ≤ length text + 1
queue-weight size handles text line next third parts reads = omega (arith, lines-weight size [] third handles reads, lines-total text, ap total parts)

-- there are no more handles than they weigh
pub number-weight : (handles : List Stopped) → length handles ≤ weight handles
number-weight [] = omega arith
number-weight (handle ∷ handles) = omega (arith, number-weight handles, sum_by-cons (λ (h : Stopped). map.len h.words + 1) handle handles)
