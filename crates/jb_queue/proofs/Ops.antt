-- The words of a handle, read one by one.
use Rattle.std.proofs.Common.{◌≡◌, ◌∙◌, sym, ℕ, List, [], ◌∷◌, refl, Result, Ok, Err, Bool, true, false, if◌then◌else◌, ◌==◌, eqb-true}
use Rattle.std.specs.FinMap as map
use Rattle.jb_queue.specs.declared.fault.Cause.{Cause}
use Rattle.jb_queue.specs.declared.fault.Cause.TheVariants.{HandleLine, Memory}
use Rattle.jb_handle.specs.declared.word.Word.{Word}
use Rattle.jb_text.specs.Parts.{words}
use Rattle.jb_queue.specs.Queue.{Gives, FirstReads, BeginsHandle, op_of, after_ops, behind_h, handle_of}
use Rattle.jb_handle.specs.Word.{WordMap}
use Rattle.jb_queue.proofs.Walks.{IsWalk, walk-first}

-- the words of a handle, with what one of them says
abbrev pub put_op : WordMap → ℕ × Word → WordMap
put_op had op = map.insert had op.0 op.1

abbrev pub same_cause : WordMap → Cause → Cause
same_cause had cause = cause

pub ops-walk : (size : ℕ) → IsWalk (op_of size) put_op same_cause (after_ops size)
unfolding after_ops
ops-walk size = record { ends = λ had. refl; goes = λ had text texts op is. rw is refl; fails = λ had text texts cause is. rw is refl }

-- the words of a line are those that are left after what was gathered; the first of them is of the form, if the first that is left is
pub record ReadTo (size : ℕ) (line : List ℕ) (had : WordMap) (left : List (List ℕ)) : Type 0 where
  pub reads : after_ops size had left ≡ after_ops size map.empty (words line)
  pub first : FirstReads size left → FirstReads size (words line)

-- the next word
module _ {size : ℕ} {line : List ℕ} {had : WordMap} {word : List ℕ} {left : List (List ℕ)} (so : ReadTo size line had (word ∷ left)) where
  pub op-fails : (cause : Cause) → op_of size word ≡ Err cause → after_ops size map.empty (words line) ≡ Err cause
  op-fails cause step = sym so.reads ∙ (ops-walk size).fails had word left cause step

  pub op-goes : (op : ℕ × Word) → op_of size word ≡ Ok op → ReadTo size line (map.insert had op.0 op.1) left
  op-goes op step = record { reads = sym ((ops-walk size).goes had word left op step) ∙ so.reads; first = λ later. so.first (rw step refl) }

-- no word is left
pub ops-whole : {size : ℕ} {line : List ℕ} {had : WordMap} → ReadTo size line had [] → after_ops size map.empty (words line) ≡ Ok had
ops-whole {size} {line} {had} so = sym so.reads ∙ (ops-walk size).ends had

-- a fault of a part is one of the whole
pub gives-on : {A B : Type 0} (cause : Cause) (part : Result A Cause) (whole : Result B Cause) → ((cause' : Cause) → part ≡ Err cause' → whole ≡ Err cause') → Gives {A = A} (Err cause) part → Gives {A = B} (Err cause) whole
gives-on Memory part whole on given = tt
gives-on cause part whole on given = on cause given

-- what is read where a test holds, and else is a fault
pub tested : (test : Bool) (cause : Cause) (x : Result WordMap Cause) (now : WordMap) → (if test then x else Err cause) ≡ Ok now → (test ≡ true) × (x ≡ Ok now)
tested true cause x now is = (refl, is)
tested false cause x now is = cc

-- words that are read begin with one of the form
ops-first : (size : ℕ) (had : WordMap) (texts : List (List ℕ)) (now : WordMap) → after_ops size had texts ≡ Ok now → FirstReads size texts
ops-first size had [] now reads = tt
ops-first size had (text ∷ texts) now reads = rw (walk-first (ops-walk size) had now text texts reads).1 refl

-- a line that is read begins as a handle's
pub line-begins : (size : ℕ) (line : List ℕ) (now : WordMap) → handle_of size line ≡ Ok now → BeginsHandle size line
line-begins size [] now reads = cc
line-begins size (b ∷ []) now reads = (eqb-true b 104 (tested (b == 104) HandleLine (Ok map.empty) now reads).0, tt)
line-begins size (b ∷ c ∷ text) now reads =
    let handle = tested (b == 104) HandleLine (behind_h size (c ∷ text)) now reads in
    let ops = tested (c == 32) HandleLine (after_ops size map.empty (words text)) now handle.1 in
    (eqb-true b 104 handle.0, (eqb-true c 32 ops.0, ops-first size map.empty (words text) now ops.1))
