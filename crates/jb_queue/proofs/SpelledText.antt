-- A queue text is read exactly where it spells a queue, and else has a first fault.
use Rattle.std.proofs.Common.{subst, ◌↔◌, ◌≡◌, ◌∙◌, sym, ap, ℕ, ◌^◌, ◌<◌, ◌≤◌, ◌&&◌, nat_le, true, List, [], ◌∷◌, ◌++◌, length, length-append, refl, arith, append_assoc, Option, Some, None, Result, Ok, inl, inr, codes, decimal, option_and_then, MatchResult, bytes_eq, append-nil, Err}
use Rattle.std.specs.List.{AllZip}
use Rattle.std.proofs.lemmas.Result.{MatchResult-at_ok, MatchResult-weaker, MatchResult-at_err}
use Rattle.std.proofs.lemmas.Option.{option_and_then_some, cond_some, some_pair_parts}
use Rattle.std.proofs.lemmas.Bool.Decides.{nat_tests}
use Rattle.std.proofs.lemmas.Slice.Eq.{bytes_eq-Decides}
use Rattle.jb_block.specs.declared.size.BlockSize.{BlockSize}
use Rattle.jb_block.specs.declared.size.BlockSize.TheVariants.{OneKib, TwoKib, FourKib}
use Rattle.jb_block.specs.declared.width.Width.{Width}
use Rattle.jb_block.specs.declared.width.Width.TheVariants.{Narrow, Wide}
use Rattle.jb_block.specs.Size.{bytes_of}
use Rattle.jb_queue.specs.declared.fault.Cause.TheVariants.{BlockSizeLine, LimitLine}
use Rattle.jb_queue.specs.declared.fault.QueueFault.{QueueFault}
use Rattle.jb_handle.specs.declared.stopped.Stopped.{Stopped}
use Rattle.jb_text.specs.Parts.{◌>>=◌, before, onward, lines, spaced, read_first, behind_word, number_of, and_then}
use Rattle.jb_queue.specs.Queue.{Queue, at_line, both_of, or_cause, where_true, format_behind, format_of, limit_in_line, size_of_bytes, width_behind, after_lines, queue_of}
use Rattle.jb_text.specs.Lines.{AreLines}
use Rattle.jb_queue.specs.Grammar.{width_text, format_line, SpellsOp, SpellsHandle, Spells}
use Rattle.jb_handle.specs.Tickets.{TicketsFrom}
use Rattle.jb_handle.specs.Word.{WordMap}
use Rattle.jb_text.proofs.ReadSteps.{IsForm, first-by, known, then-says, behind-read, first-none, wrong-is}
use Rattle.jb_queue.specs.Faults.{IsHandleFault, FirstFaultOf, HasNoFormat, FirstFault}
use Rattle.jb_queue.proofs.Walks.{each-map, each-all}
use Rattle.jb_queue.proofs.FaultyLines.{lines-fault, handle-is, handle-from, lines-wrong}
use Rattle.jb_queue.proofs.Weights.{lines-walk, handles-are}
use Rattle.jb_text.proofs.Grammar.{lines-are, are-lines, IsLine}
use Rattle.jb_text.proofs.Joins.{Without, Begins, literal-without, literal-put, without-append, parts-put, spaced-without, decimal-without}
use Rattle.jb_text.proofs.Numerals.{number-is_decimal, decimal-is_number}
use Rattle.jb_queue.proofs.FaultyOps.{feed-delimits, op-clear}
use Rattle.jb_text.proofs.Splits.{parted}

-- the two first lines
size-of : (n : ℕ) (size : BlockSize) → size_of_bytes n ≡ Some size → n ≡ bytes_of size
size-of n OneKib is = grind (arith, nat_tests, is)
size-of n TwoKib is = grind (arith, nat_tests, is)
size-of n FourKib is = grind (arith, nat_tests, is)

digits-case : (digits : List ℕ) (size : BlockSize) → option_and_then size_of_bytes (number_of digits) ≡ Some size → digits ≡ decimal (bytes_of size)
digits-case digits size is = option_and_then_some size_of_bytes (number_of digits) size is (λ n found gives. (number-is_decimal digits (bytes_of size) (found ∙ ap Some (size-of n size gives))).0)

width-is : (text : List ℕ) (width : Width) → width_behind text ≡ Some width → text ≡ width_text width
width-is [] width is = let same : Narrow ≡ width = cc in ap width_text same
width-is (b ∷ bs) width is =
    let found = cond_some (bytes_eq (b ∷ bs) (codes " wide")) Wide width is in
    (bytes_eq-Decides (b ∷ bs) (codes " wide")).0 found.0 ∙ ap width_text found.1

both-is : (size : Option BlockSize) (width : Option Width) (format : BlockSize × Width) → both_of size width ≡ Some format → (size ≡ Some format.0) × (width ≡ Some format.1)
both-is None width format is = cc
both-is (Some size) None format is = cc
both-is (Some size) (Some width) format is = let same = some_pair_parts size format.0 width format.1 is in (ap Some same.0, ap Some same.1)

pub format-is : (line : List ℕ) (format : BlockSize × Width) → format_of line ≡ Some format → line ≡ format_line format.0 format.1
format-is line format is =
    let found = behind-read (codes "bs ") line format_behind format is in
    let text = found.0 in
    let both = both-is (option_and_then size_of_bytes (number_of (before 32 text))) (width_behind (onward 32 text)) format found.2 in
    found.1 ∙ ap (λ bs. codes "bs " ++ bs) (
    sym (parted 32 text)
    ∙ ap (λ bs. bs ++ onward 32 text) (digits-case (before 32 text) format.0 both.0)
    ∙ ap (λ bs. decimal (bytes_of format.0) ++ bs) (width-is (onward 32 text) format.1 both.1)
    )

size-fits : (size : BlockSize) → bytes_of size < 2 ^ 64
size-fits OneKib = omega arith
size-fits TwoKib = omega arith
size-fits FourKib = omega arith

size-back : (size : BlockSize) → option_and_then size_of_bytes (number_of (decimal (bytes_of size))) ≡ Some size
size-back OneKib = rw (decimal-is_number 1024 (omega arith)) refl
size-back TwoKib = rw (decimal-is_number 2048 (omega arith)) refl
size-back FourKib = rw (decimal-is_number 4096 (omega arith)) refl

width-begins : (width : Width) → Begins 32 (width_text width)
width-begins Narrow = tt
width-begins Wide = refl

width-back : (width : Width) → width_behind (width_text width) ≡ Some width
width-back Narrow = refl
width-back Wide = refl

pub format-from : (size : BlockSize) (width : Width) → format_of (format_line size width) ≡ Some (size, width)
format-from size width =
    let parts = parts-put 32 (decimal (bytes_of size)) (width_text width) (decimal-without 32 (bytes_of size) refl (size-fits size)) (width-begins width) in
    rw (parts.0, parts.1, size-back size, width-back width) refl

limit-case : (n : Option ℕ) (limit : ℕ) → and_then n (λ m. where_true (nat_le 3 m && nat_le m 2147483646) m) ≡ Some limit → (n ≡ Some limit) × (3 ≤ limit) × (limit ≤ 2147483646)
limit-case None limit is = cc
limit-case (Some m) limit is = (grind (arith, nat_tests, is), grind (arith, nat_tests, is), grind (arith, nat_tests, is))

pub limit-is : (line : List ℕ) (limit : ℕ) → limit_in_line line ≡ Some limit → (line ≡ codes "limit " ++ decimal limit) × (3 ≤ limit) × (limit ≤ 2147483646)
limit-is line limit is =
    let number = limit-case (option_and_then number_of (behind_word (codes "limit ") line)) limit is in
    let found = behind-read (codes "limit ") line number_of limit number.0 in
    (found.1 ∙ ap (λ bs. codes "limit " ++ bs) (number-is_decimal found.0 limit found.2).0, number.1, number.2)

pub limit-from : (limit : ℕ) → 3 ≤ limit → limit ≤ 2147483646 → limit_in_line (codes "limit " ++ decimal limit) ≡ Some limit
limit-from limit least most =
    let holds : (nat_le 3 limit && nat_le limit 2147483646) ≡ true = grind (arith, nat_tests, least, most) in
    rw (decimal-is_number limit (omega arith), holds) refl

-- the two first lines are read where they are shown
pub format-form : IsForm format_of (λ format. format_line format.0 format.1) (λ format. Unit {0})
format-form = record { is = λ line format is. (format-is line format is, tt); back = λ format fits. format-from format.0 format.1 }

pub limit-form : IsForm limit_in_line (λ limit. codes "limit " ++ decimal limit) (λ limit. (3 ≤ limit) × (limit ≤ 2147483646))
limit-form = record { is = λ line limit is. let found = limit-is line limit is in (found.0, (found.1, found.2)); back = λ limit fits. limit-from limit fits.0 fits.1 }

-- what spells handles is read to them
handles-from : (size : ℕ) (had : List Stopped) (left : List (List ℕ)) (handles : List Stopped) → AllZip (λ line handle. SpellsHandle size line handle.words) left handles → TicketsFrom (length had) handles → after_lines size had left ≡ Ok (had ++ handles)
handles-from size had [] [] each tickets = (lines-walk size).ends had ∙ ap Ok (sym (append-nil had))
handles-from size had (line ∷ more) (h ∷ hs) each tickets =
    (lines-walk size).goes had line more h.words (handle-from size line h.words each.0)
    ∙ ap (λ n. after_lines size (had ++ record { ticket = n; words = h.words } ∷ []) more) (sym tickets.0)
    ∙ handles-from size (had ++ h ∷ []) more hs each.1 (subst (λ n. TicketsFrom n hs) (sym (length-append had (h ∷ []))) tickets.1)
    ∙ ap Ok (append_assoc had (h ∷ []) hs)
handles-from size had left handles each tickets = absurd each

-- the queue of a text, from after its first line and its second
abbrev pub behind_limit : BlockSize × Width → ℕ → List (List ℕ) → Result Queue QueueFault
behind_limit format limit more = after_lines (bytes_of format.0) [] more >>= λ handles. Ok (record { size = format.0; limit = limit; width = format.1; handles = handles })

abbrev pub behind_format : BlockSize × Width → List (List ℕ) → Result Queue QueueFault
behind_format format rest = at_line 2 (or_cause LimitLine (read_first limit_in_line rest)) >>= λ limit. behind_limit format limit.0 limit.1

-- the queue of some lines
abbrev pub read : List (List ℕ) → Result Queue QueueFault
read all = at_line 1 (or_cause BlockSizeLine (read_first format_of all)) >>= λ found. behind_format found.0 found.1

-- some lines spell a queue
pub record SpellsLines (all : List (List ℕ)) (queue : Queue) : Type 0 where
  pub more : List (List ℕ)
  pub parts : all ≡ format_line queue.size queue.width ∷ (codes "limit " ++ decimal queue.limit) ∷ more
  pub least : 3 ≤ queue.limit
  pub most : queue.limit ≤ 2147483646
  pub each : AllZip (λ line handle. SpellsHandle (bytes_of queue.size) line handle.words) more queue.handles
  pub tickets : TicketsFrom 0 queue.handles

handles-say : (all : List (List ℕ)) (format : BlockSize × Width) (limit : ℕ) (more : List (List ℕ)) → all ≡ format_line format.0 format.1 ∷ (codes "limit " ++ decimal limit) ∷ more → 3 ≤ limit → limit ≤ 2147483646
    → MatchResult (behind_limit format limit more) (SpellsLines all) (IsHandleFault all)
handles-say all format limit more parts least most =
    let size = bytes_of format.0 in
    then-says _ _ (after_lines size [] more) (λ handles. Ok (record { size = format.0; limit = limit; width = format.1; handles = handles })) (known (after_lines size [] more))
    (λ handles reads.
    let are = handles-are size [] handles more reads in
    record {
      more = more;
      parts = parts;
      least = least;
      most = most;
      each = rw are.whole (each-map _ _ (λ line handle. handle-is size line handle.words) more are.handles are.each);
      tickets = rw are.whole are.tickets;
    })
    (λ fault fails. record {
      size = format.0;
      width = format.1;
      limit = limit;
      more = more;
      parts = parts;
      least = least;
      most = most;
      wrong = lines-fault size more fault fails;
    })

limit-says : (all : List (List ℕ)) (format : BlockSize × Width) (rest : List (List ℕ)) → all ≡ format_line format.0 format.1 ∷ rest → MatchResult (behind_format format rest) (SpellsLines all) (FirstFaultOf all)
limit-says all format rest parts =
    first-by limit-form (λ got. MatchResult (at_line 2 (or_cause LimitLine got) >>= λ found. behind_limit format found.0 found.1) (SpellsLines all) (FirstFaultOf all)) rest
    (λ none. inr (inl (refl, record { size = format.0; width = format.1; more = rest; parts = parts; none = λ limit more least most is. none limit more is (least, most) })))
    (λ limit more is fits.
    let two = parts ∙ ap (λ ls. format_line format.0 format.1 ∷ ls) is in
    MatchResult-weaker (behind_limit format limit more) (handles-say all format limit more two fits.0 fits.1) (λ queue spells. spells) (λ fault wrong. inr (inr wrong)))

pub read-says : (all : List (List ℕ)) → MatchResult (read all) (SpellsLines all) (FirstFaultOf all)
read-says all =
    first-by format-form (λ got. MatchResult (at_line 1 (or_cause BlockSizeLine got) >>= λ found. behind_format found.0 found.1) (SpellsLines all) (FirstFaultOf all)) all
    (λ none. inl (refl, λ size width more is. none (size, width) more is tt))
    (λ format more is _. limit-says all format more is)

pub queue-is : (text : List ℕ) (queue : Queue) → queue_of text ≡ Ok queue → Spells text queue
queue-is text queue reads =
    let says = MatchResult-at_ok (SpellsLines (lines text)) (FirstFaultOf (lines text)) queue reads (read-says (lines text)) in
    record {
      handle_lines = says.more;
      spelled = subst (λ ls. AreLines ls text) says.parts (lines-are text);
      least = says.least;
      most = says.most;
      each = says.each;
      tickets = says.tickets;
    }

-- and back
handle-line : (size : ℕ) (line : List ℕ) (words : WordMap) → SpellsHandle size line words → IsLine line
handle-line size line words spells =
    let clear = each-all (SpellsOp size) (Without 10) (op-clear size 10 feed-delimits) spells.texts spells.ops spells.each in
    subst IsLine (sym spells.spelled) (omega arith, literal-put 10 (codes "h") (spaced spells.texts) refl (spaced-without 10 spells.texts (λ same. cc) clear))

format-clear : (width : Width) → Without 10 (width_text width)
format-clear Narrow = tt
format-clear Wide = literal-without 10 (codes " wide") refl

pub queue-from : (text : List ℕ) (queue : Queue) → Spells text queue → queue_of text ≡ Ok queue
queue-from text queue spells =
    let all = format_line queue.size queue.width ∷ (codes "limit " ++ decimal queue.limit) ∷ spells.handle_lines in
    let number = decimal-without 10 (bytes_of queue.size) refl (size-fits queue.size) in
    let numbered = without-append 10 (decimal (bytes_of queue.size)) (width_text queue.width) number (format-clear queue.width) in
    let parts : lines text ≡ all = are-lines all text spells.spelled (
      (
        omega (arith, length-append (codes "bs ") (decimal (bytes_of queue.size) ++ width_text queue.width)),
        literal-put 10 (codes "bs ") _ refl numbered,
      ),
      (
        (omega arith, literal-put 10 (codes "limit ") _ refl (decimal-without 10 queue.limit refl (omega (arith, spells.most)))),
        each-all _ IsLine (λ line handle. handle-line (bytes_of queue.size) line handle.words) spells.handle_lines queue.handles spells.each,
      ),
    ) in
    ap read parts
    ∙ rw (format-from queue.size queue.width, limit-from queue.limit spells.least spells.most, handles-from (bytes_of queue.size) [] spells.handle_lines queue.handles spells.each spells.tickets) refl

pub spelled : (text : List ℕ) (queue : Queue) → (queue_of text ≡ Ok queue) ↔ Spells text queue
spelled text queue = (queue-is text queue, queue-from text queue)

-- ---- and the first fault of a text is the one at which reading ends

read-fault : (all : List (List ℕ)) (fault : QueueFault) → read all ≡ Err fault → FirstFaultOf all fault
read-fault all fault is = MatchResult-at_err (SpellsLines all) (FirstFaultOf all) fault is (read-says all)

-- and back
format-wrong : (all : List (List ℕ)) → HasNoFormat all → read all ≡ Err (record { line = 1; cause = BlockSizeLine })
format-wrong all none = wrong-is (read all) (record { line = 1; cause = BlockSizeLine }) (read-says all) (λ queue spells. none queue.size queue.width _ spells.parts) (λ fault no. elim no [
  | inl here ↦ here.0
  | inr (inl later) ↦ absurd (none later.1.size later.1.width later.1.more later.1.parts)
  | inr (inr later) ↦ absurd (none later.size later.width _ later.parts)
])

read-wrong : (all : List (List ℕ)) (fault : QueueFault) → FirstFaultOf all fault → read all ≡ Err fault
read-wrong all fault found = elim found [
  | inl format ↦ format-wrong all format.1 ∙ ap Err (sym format.0)
  | inr (inl limit) ↦
      let at = limit.1 in
      ap read at.parts ∙ rw (format-from at.size at.width, first-none limit-form at.more (λ limit more is fits. at.none limit more fits.0 fits.1 is)) (ap Err (sym limit.0))
  | inr (inr at) ↦
      ap read at.parts
      ∙ rw (format-from at.size at.width, limit-from at.limit at.least at.most, lines-wrong (bytes_of at.size) at.more fault at.wrong) refl
]

pub first_faults : (text : List ℕ) (fault : QueueFault) → (queue_of text ≡ Err fault) ↔ FirstFault text fault
first_faults text fault = (read-fault (lines text) fault, read-wrong (lines text) fault)
