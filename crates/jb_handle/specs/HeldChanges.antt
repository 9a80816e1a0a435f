-- The changes of an open handle, which further changes it refuses, and what a change makes of it.
use Rattle.std.specs.Prelude.{◌≡◌, ℕ, ◌^◌, ◌<◌, ◌≤◌, Bool, true, false, not, nat_le, ◌==◌, ◌&&◌, List, [], ◌∷◌, length}
use Rattle.std.specs.Prelude.{Option, Some, None}
use Rattle.std.specs.FinMap as map
use Rattle.jb_block.specs.Size.{bytes_of}
use Rattle.jb_handle.specs.declared.word.Word.{Word}
use Rattle.jb_handle.specs.declared.word.Word.TheVariants.{Copy, Free}
use Rattle.jb_handle.specs.declared.shape.Shape.{Shape}
use Rattle.jb_handle.specs.declared.op.Op.{Op}
use Rattle.jb_handle.specs.declared.op.Op.TheVariants.{Write, Revoke}
use Rattle.jb_handle.specs.declared.changes.TouchFault.{TouchFault}
use Rattle.jb_handle.specs.declared.changes.TouchFault.TheVariants.{NoCredit, OutOfRange, Length}
use Rattle.jb_handle.specs.Word.{WordMap}

-- the credits of a handle, what it has to fit, and its last word on each home that it touched
pub record Held : Type 0 where
  pub credits : ℕ
  pub shape : Shape
  pub words : WordMap

-- a handle with these credits, this shape and these words
abbrev pub held : ℕ → Shape → WordMap → Held
held credits shape words = record { credits = credits; shape = shape; words = words }

-- how many homes were touched
abbrev pub touched_count : Held → ℕ
touched_count h = map.len h.words

-- a word that the shape has room for: its home is there, and a copy has the bytes of a block
abbrev pub FitsWord : Shape → ℕ → Word → Type 0
FitsWord shape home (Copy bytes) = (home < shape.homes) × (length bytes ≡ bytes_of shape.bs)
FitsWord shape home Free = home < shape.homes

-- words that the shape has room for
abbrev pub Fits : Shape → WordMap → Type 0
Fits shape words = (home : ℕ) (word : Word) → map.get words home ≡ Some word → FitsWord shape home word

-- the homes touched are within the credits, which 32 bits hold, and the words fit the shape
pub record IsKept (h : Held) : Type 0 where
  pub narrow : h.credits < 2 ^ 32
  pub within : touched_count h ≤ h.credits
  pub fits : Fits h.shape h.words

-- the home that a change is of
abbrev pub home_of : Op → ℕ
home_of (Write home bytes) = home
home_of (Revoke home) = home

-- the word that a change leaves: a write a copy of its bytes, a revoke free
abbrev pub word_of : Op → Word
word_of (Write home bytes) = Copy bytes
word_of (Revoke home) = Free

-- how many bytes a copy has
abbrev pub len_in : Word → Option ℕ
len_in (Copy bytes) = Some (length bytes)
len_in Free = None

-- the first fault whose fact holds
abbrev pub first_of : {F : Type 0} → List (Bool × F) → Option F
first_of [] = None
first_of ((true, fault) ∷ rest) = Some fault
first_of ((false, fault) ∷ rest) = first_of rest

-- the home is new, and all credits are used
abbrev pub is_spent : Held → ℕ → Bool
is_spent h home = not (map.contains_key h.words home) && nat_le h.credits (touched_count h)

-- a write has other than a block's bytes
abbrev pub is_misfit : Shape → Option ℕ → Bool
is_misfit shape None = false
is_misfit shape (Some len) = not (len == bytes_of shape.bs)

-- the first reason against a change of a home, by a write of this many bytes or by a revoke
abbrev pub refusal_at : Held → ℕ → Option ℕ → Option TouchFault
refusal_at h home len =
    first_of ((is_spent h home, NoCredit h.credits) ∷ (nat_le h.shape.homes home, OutOfRange home)
    ∷ (is_misfit h.shape len, Length) ∷ [])

-- the first reason against a change
abbrev pub refusal : Held → Op → Option TouchFault
refusal h op = refusal_at h (home_of op) (len_in (word_of op))

-- after a word was put on a home
abbrev pub put_at : Held → ℕ → Word → Held
put_at h home word = held h.credits h.shape (map.insert h.words home word)

-- after a change
abbrev pub after : Held → Op → Held
after h op = put_at h (home_of op) (word_of op)
