-- What a client of a book says of its calls, and of two handles.
use Rattle.std.specs.Prelude.{◌≡◌, ◌⊎◌, ℕ, List, [], ◌∷◌, ◌++◌, map, length, take, Ok}
use Rattle.jb_handle.specs.declared.shape.Shape.{Shape}
use Rattle.jb_handle.specs.declared.stopped.Stopped.{Stopped}
use Rattle.jb_handle.specs.Word.{WordMap}
use Rattle.jb_cost.specs.Pieces.{pieces}
use Rattle.jb_plan.specs.Batch.{Gathered, gathered}
use Rattle.jb_plan.specs.Prepare.{Planned, IsPlanned}
use Rattle.jb_deck.specs.Done.{entries_of}
use Rattle.jb_deck.specs.declared.done.Done.{Done}
use Rattle.jb_deck.specs.declared.done.Entry.{Entry}
use Rattle.jb_book.specs.Account.{Account, CanTake}
use Rattle.jb_book.specs.Calls.{BookCall, Took, Settled, CallsMake, AreOfFirst, IsCutOf, handles_in}

-- where some calls of a new book led to the account before, these calls and this one lead to the account after
abbrev pub CallLeads : BookCall → Account → Account → Type 0
CallLeads call old new =
    (shape : Shape) (usable : ℕ) (calls : List BookCall) → CallsMake shape usable calls old
    → CallsMake shape usable (call ∷ calls) new

-- the plan is of the batch
pub record IsPlanOf (b : Gathered) (p : Planned) : Type 0 where
  pub batch : p.batch ≡ b
  pub planned : IsPlanned p

-- the entries are those of the first groups of the batch's cut
abbrev pub TellsFirstGroups : Planned → Done → Type 0
TellsFirstGroups p done = AreOfFirst (pieces p.groups p.batch.handles) (entries_of done)

-- the whole queue was taken and committed by a least cut, and the groups that the journal has settled are settled in
-- the book; the journal's trail was such before and after
pub record SettlesQueue (old new : Account) (before after : List Entry) : Type 0 where
  pub could : CanTake old
  pub cut : List ℕ
  pub entries : List Entry
  pub least : IsCutOf (gathered old.shadow.taken old.shadow.queue old.shape) cut
  pub told : after ≡ before ++ entries
  pub trail : new.trail ≡ old.trail ++ entries
  pub goes : (shape : Shape) (usable : ℕ) (calls : List BookCall) → CallsMake shape usable calls old
      → CallsMake shape usable (Settled entries (Ok tt)
      ∷ Took (gathered old.shadow.taken old.shadow.queue old.shape) cut ∷ calls) new

-- ---- two handles

-- two handles that stopped with these words, the first ones of a book
abbrev pub two_stops : WordMap → WordMap → List Stopped
two_stops first second = record { ticket = 0; words = first } ∷ record { ticket = 1; words = second } ∷ []

-- which of two handles the groups have: none; the first one, or both in one group; or each in a group of its own
abbrev pub Have : Stopped → Stopped → List (List Stopped) → Type 0
Have one two [] = Unit {0}
Have one two (g ∷ []) = (g ≡ one ∷ []) ⊎ (g ≡ one ∷ two ∷ [])
Have one two (g ∷ h ∷ []) = (g ≡ one ∷ []) × (h ≡ two ∷ [])
Have one two (g ∷ h ∷ i ∷ groups) = ⊥

-- The groups of a trail are the first ones of a least cut of two handles, and have these handles whole
pub record Stand (shape : Shape) (first second : WordMap) (trail : List Entry) : Type 0 where
  pub cut : List ℕ
  pub least : IsCutOf (gathered 0 (two_stops first second) shape) cut
  pub groups : map (handles_in (two_stops first second)) trail
      ≡ take (length trail) (pieces cut (two_stops first second))
  pub have : Have (record { ticket = 0; words = first }) (record { ticket = 1; words = second })
      (map (handles_in (two_stops first second)) trail)
