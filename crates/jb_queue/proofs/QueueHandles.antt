-- The handles of a queue, read from its text one by one.
use Rattle.std.proofs.Common.{◌≡◌, ◌∙◌, sym, ap, subst, ℕ, zero, suc, ◌+◌, ◌<◌, ◌≤◌, List, [], ◌∷◌, ◌++◌, length, length-append, drop, get_or, arith, refl, Result, Ok, Err, IsOk, append_assoc, drop-drop, length-drop}
use Rattle.std.proofs.Math.Seq.{get_or-append_seam}
use Rattle.std.proofs.lemmas.List.{drop_all}
use Rattle.std.proofs.lemmas.Slice.Zip.{AllZip-long}
use Rattle.jb_queue.specs.declared.fault.Cause.{Cause}
use Rattle.jb_queue.specs.declared.fault.QueueFault.{QueueFault}
use Rattle.jb_handle.specs.declared.stopped.Stopped.{Stopped}
use Rattle.jb_handle.specs.Word.{WordMap}
use Rattle.jb_queue.specs.Queue.{IsCount, after_lines, handle_of, handles_or_none}
use Rattle.jb_queue.proofs.Weights.{lines-walk, handles-are}
use Rattle.jb_queue.proofs.Walks.{walk-first}

-- after one line more
pub drop-more : {A : Type 0} (n : ℕ) (ls : List A) (line : A) (more : List A) → drop n ls ≡ line ∷ more → drop (n + 1) ls ≡ more
drop-more n ls line more is = sym (drop-drop 1 n ls) ∙ ap (drop 1) is

-- after more lines than there are
pub drop-past : {A : Type 0} (n m : ℕ) (ls : List A) → drop n ls ≡ [] → n ≤ m → drop m ls ≡ []
drop-past n m ls is less = drop_all m ls (omega (arith, ap length is, length-drop n ls, less))

-- after handles of this number, the lines give all
pub record IsAt (size : ℕ) (all : List Stopped) (at : ℕ) (ls : List (List ℕ)) : Type 0 where
  pub had : List Stopped
  pub number : length had ≡ at
  pub reads : after_lines size had ls ≡ Ok all

-- how many there are
pub number-all : (size : ℕ) (all : List Stopped) (at : ℕ) (ls : List (List ℕ)) → IsAt size all at ls → length all ≡ at + length ls
number-all size all at ls placed =
    let are = handles-are size placed.had all ls placed.reads in
    let number = AllZip-long (λ line handle. handle_of size line ≡ Ok handle.words) ls are.handles are.each in
    omega (arith, ap length are.whole, length-append placed.had are.handles, placed.number, number)

-- the handle at a place, and what is left after it
pub record Next (size : ℕ) (all : List Stopped) (at : ℕ) (line : List ℕ) (more : List (List ℕ)) : Type 0 where
  pub there : at < length all
  pub words : WordMap
  pub read : handle_of size line ≡ Ok words
  pub is : (d : Stopped) → words ≡ (get_or all at d).words
  pub after : IsAt size all (at + 1) more

next-here : (size : ℕ) (all : List Stopped) (at : ℕ) (line : List ℕ) (more : List (List ℕ)) → IsAt size all at (line ∷ more) → Next size all at line more
next-here size all at line more placed =
    let first = walk-first (lines-walk size) placed.had all line more placed.reads in
    let one : Stopped = record { ticket = length placed.had; words = first.0 } in
    let are = handles-are size (placed.had ++ one ∷ []) all more first.2 in
    let parts : all ≡ placed.had ++ one ∷ are.handles = are.whole ∙ append_assoc placed.had (one ∷ []) are.handles in
    record {
      there = omega (arith, number-all size all at (line ∷ more) placed);
      words = first.0;
      read = first.1;
      is = λ d. sym (ap (λ (x : Stopped). x.words) (ap (λ hs. get_or hs at d) parts ∙ ap (λ n. get_or (placed.had ++ one ∷ are.handles) n d) (sym placed.number) ∙ get_or-append_seam placed.had one are.handles d));
      after = record { had = placed.had ++ one ∷ []; number = omega (arith, length-append placed.had (one ∷ []), placed.number); reads = first.2 };
    }

-- lines are passed over
passes : (size : ℕ) (all : List Stopped) (n at to : ℕ) (ls : List (List ℕ)) → IsAt size all at ls → to ≡ at + n → n ≤ length ls → IsAt size all to (drop n ls)
passes size all zero at to ls placed is within = subst (λ n. IsAt size all n ls) (let same : at ≡ to = omega (arith, is) in same) placed
passes size all (suc n) at to [] placed is within = absurd (omega (arith, within))
passes size all (suc n) at to (line ∷ ls) placed is within = passes size all n (at + 1) to ls (next-here size all at line ls placed).after (omega (arith, is)) (omega (arith, within))

pub next-is : (size : ℕ) (all : List Stopped) (n at : ℕ) (ls : List (List ℕ)) (line : List ℕ) (more : List (List ℕ)) → IsAt size all at ls → drop n ls ≡ line ∷ more → Next size all (at + n) line more
next-is size all n at ls line more placed is =
    next-here size all (at + n) line more (rw is at (passes size all n at (at + n) ls placed refl (omega (arith, ap length is, length-drop n ls))))

-- no handle is left
pub none-left : (size : ℕ) (all : List Stopped) (n at : ℕ) (ls : List (List ℕ)) → IsAt size all at ls → drop n ls ≡ [] → length all ≤ at + n
none-left size all n at ls placed is = omega (arith, number-all size all at ls placed, ap length is, length-drop n ls)

-- the handles that were counted
pub counted-is : (read : Result (List Stopped) QueueFault) (count : ℕ) → IsCount read count → IsOk read × (read ≡ Ok (handles_or_none read)) × (count ≡ length (handles_or_none read))
counted-is (Ok handles) count is = (refl, refl, is)
counted-is (Err fault) count is = absurd is

-- one line has one handle's words
pub same-words : (read : Result WordMap Cause) (one other : WordMap) → read ≡ Ok one → read ≡ Ok other → one ≡ other
same-words read one other is also =
    let both : ◌≡◌ {A = Result WordMap Cause} (Ok one) (Ok other) = sym is ∙ also in cc

-- what was answered
pub ok-value : {A : Type 0} (read : Result A Cause) → IsOk read → (x : A) × (read ≡ Ok x)
ok-value (Ok x) is = (x, refl)
ok-value (Err cause) is = cc
