-- The states of two disks, call by call, and what a crash might have left of both.
use Rattle.std.specs.Prelude.{◌≡◌, ◌≤◌, ◌⊎◌, ◌+◌, ℕ, List, [], ◌∷◌, ◌++◌, length}
use Rattle.jb_disk.specs.Image.{Image}
use Rattle.jb_image.specs.declared.past.Past.{Past}
use Rattle.jb_image.specs.declared.past.Past.TheVariants.{Start, Call'}

-- the states of two disks before each call of one of them, the last first
abbrev pub states : {A B : Type 0} → Past A B → List (A × B)
states Start = []
states (Call' a b place before) = (a.value, b.value) ∷ states before

-- an image with P, and after its blocks those of one with Q
pub record Joins (P Q : Image → Type 0) (c : Image) : Type 0 where
  pub front : Image
  pub back : Image
  pub first : P front
  pub second : Q back
  pub joined : c ≡ front ++ back

module _ {A B : Type 0} (leaves : A → Image → Type 0) (moment : A → ℕ) (since : A → ℕ → Image → Type 0)
    (leaves' : B → Image → Type 0) (moment' : B → ℕ) (since' : B → ℕ → Image → Type 0) where
  -- what a crash may leave of two disks: what it may leave of each
  abbrev pub LeavesBoth : A × B → Image → Type 0
  LeavesBoth now = Joins (leaves now.0) (leaves' now.1)

  -- what a crash might have left of two disks in the call that was made between two of their states
  abbrev pub LeftBetween : A × B → A × B → Image → Type 0
  LeftBetween before now = Joins (since now.0 (moment before.0)) (since' now.1 (moment' before.1))

  -- what a crash might have left of two disks when t calls had been made, or later: between two calls, or in one
  abbrev pub LeftOfBoth : A × B → List (A × B) → ℕ → Image → Type 0
  LeftOfBoth now [] t c = (t ≤ 0) × LeavesBoth now c
  LeftOfBoth now (before ∷ older) t c =
      ((t ≤ length older + 1) × LeavesBoth now c)
      ⊎ (((t ≤ length older) × LeftBetween before now c) ⊎ LeftOfBoth before older t c)
