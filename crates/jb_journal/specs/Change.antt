-- What a client's change of home blocks answers.
use Rattle.std.specs.Prelude.{◌≡◌, ℕ, ◌≤◌, All, List, [], ◌∷◌, ◌++◌, length, Result, Ok, Err, IfOk}
use Rattle.std.specs.Borrow.{MutBor}
use Rattle.std.specs.Fn.{Once, FnOnceReturnsAtMut}
use Rattle.jb_handle.specs.Handle.{changes_of}
use Rattle.jb_handle.specs.HeldChanges.{Held}
use Rattle.jb_handle.specs.Word.{WordMap}
use Rattle.jb_handle.specs.declared.handle.Handle.{Handle}
use Rattle.jb_board.specs.HistoryRule.{IsFirstPart, StandsIn}
use Rattle.jb_book.specs.declared.sights.Sights.{Sights}
use Rattle.jb_desk.specs.Refusals.{IsTooMany}
use Rattle.jb_journal.specs.Notes.{Stop}
use Rattle.jb_journal.specs.declared.fault.HandleFault.{HandleFault}
use Rattle.jb_journal.specs.declared.fault.HandleFault.TheVariants.{Begin, Refused, Aborted, NotOpen, Memory}

module _ {F T E : Type 0} (g : Once F (MutBor (Handle (Unit {0})) × Unit {0})
    (Result T E × (MutBor (Handle (Unit {0})) × Unit {0}))) (f : F) (fresh : Held) where
  -- f was called with a handle that had these changes, and gave this
  pub record IsCalled (answer : Result T E) : Type 0 where
    pub before : Handle (Unit {0})
    pub after : Handle (Unit {0})
    pub begun : changes_of before ≡ fresh
    pub gave : FnOnceReturnsAtMut g f before answer after

  -- f gave something with which the handle was to stop
  pub record IsCalledWell : Type 0 where
    pub answer : T
    pub called : IsCalled (Ok answer)

  -- f gave this, and the handle stopped under this ticket, with the words that f left in it: with these the client has
  -- stopped one handle more
  pub record IsChanged (answer : T) (ticket : ℕ) (old new : List Stop) : Type 0 where
    pub called : IsCalled (Ok answer)
    pub stopped : new ≡ old ++ (ticket, (changes_of called.after).words) ∷ []

  -- What f gave is given where its handle stopped, and is the refusal where it refused. Of a handle that was not begun
  -- nothing is said of f; where its credits were too many, they are more than the number that is named. Only a handle
  -- that stopped is one more of those that the client has stopped
  abbrev pub AnswersChange : List Stop → List Stop → Result (T × ℕ) (HandleFault E) → Type 0
  AnswersChange old new (Ok given) = IsChanged given.0 given.1 old new
  AnswersChange old new (Err (Begin fault)) = IsTooMany fresh.credits fault × (new ≡ old)
  AnswersChange old new (Err (Refused fault)) = IsCalled (Err fault) × (new ≡ old)
  AnswersChange old new (Err Aborted) = IsCalledWell × (new ≡ old)
  AnswersChange old new (Err NotOpen) = IsCalledWell × (new ≡ old)
  AnswersChange old new (Err Memory) = IsCalledWell × (new ≡ old)

-- a handle stops with this answer and these words, or the desk refuses it
abbrev pub StopsWith : {T E : Type 0} → T → WordMap → List Stop → List Stop → Result (T × ℕ) (HandleFault E) → Type 0
StopsWith answer words old new (Ok given) = (given.0 ≡ answer) × (new ≡ old ++ (given.1, words) ∷ [])
StopsWith answer words old new (Err (Begin fault)) = ⊥
StopsWith answer words old new (Err (Refused fault)) = ⊥
StopsWith answer words old new (Err Aborted) = new ≡ old
StopsWith answer words old new (Err NotOpen) = new ≡ old
StopsWith answer words old new (Err Memory) = new ≡ old

-- What was seen after a change: the handle that stopped is seen, with a higher ticket than those that had been seen;
-- where none stopped, the same is seen. Either way the handles that stopped with the seat are seen where they were
-- before
pub record SeesChange {D H T E : Type 0} (before after : List Stop) (old new : Sights D H) (result : Result (T × ℕ) E)
    : Type 0 where
  pub marks : new.marks ≡ old.marks
  pub begins : IsFirstPart old.stops new.stops
  pub higher : IfOk result (λ given. length old.stops ≤ given.1)
  pub own : All (StandsIn old.stops) before → All (StandsIn new.stops) after
