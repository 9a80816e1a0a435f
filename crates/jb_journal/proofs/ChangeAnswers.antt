-- What a change answers, from what its closure gave.
use Rattle.std.proofs.Common.{get_or, ◌≡◌, ℕ, All, List, [], ◌∷◌, ◌++◌, Option, Some, Result, Ok, Err, sym, ap, subst, ◌∙◌}
use Rattle.std.proofs.lemmas.List.Elements.{All-push}
use Rattle.std.specs.Borrow.{MutBor}
use Rattle.std.specs.Fn.{Once}
use Rattle.jb_handle.specs.Handle.{changes_of}
use Rattle.jb_handle.specs.HeldChanges.{Held}
use Rattle.jb_handle.specs.Word.{WordMap}
use Rattle.jb_handle.specs.declared.handle.Handle.{Handle}
use Rattle.jb_board.proofs.EntryPlaces.{placed_on}
use Rattle.jb_board.specs.HistoryRule.{StandsIn}
use Rattle.jb_board.specs.declared.place.Place.{Ghosts as Places}
use Rattle.jb_book.specs.Marks.{SeesStop}
use Rattle.jb_book.specs.declared.origin.Origin.{Ghosts}
use Rattle.jb_book.specs.declared.sights.Sights.{Sights}
use Rattle.jb_desk.specs.Seats.{made_by}
use Rattle.jb_desk.specs.declared.seat.Seat.{Seat}
use Rattle.jb_journal.specs.Change.{AnswersChange, IsCalled, IsChanged, SeesChange, StopsWith}
use Rattle.jb_journal.specs.Seated.{made_from}
use Rattle.jb_journal.specs.Notes.{Stop}
use Rattle.jb_journal.specs.declared.fault.HandleFault.{HandleFault}
use Rattle.jb_journal.specs.declared.fault.HandleFault.TheVariants.{Begin, Refused, Aborted, NotOpen, Memory}

module _ {F T E : Type 0} (g : Once F (MutBor (Handle (Unit {0})) × Unit {0}) (Result T E × (MutBor (Handle (Unit {0})) × Unit {0}))) (f : F) (fresh : Held) (answer : T) (called : IsCalled g f fresh (Ok answer)) where
  -- the handle that f left stops with its words
  pub stopped-as : (words : WordMap) (old new : List (ℕ × WordMap)) → words ≡ (changes_of called.after).words → (r : Result (T × ℕ) (HandleFault E)) → StopsWith answer words old new r → AnswersChange g f fresh old new r
  stopped-as words old new same (Ok given) is = subst (λ a. IsChanged g f fresh a given.1 old new) (sym is.0) record { called = called; stopped = is.1 ∙ ap (λ w. old ++ (given.1, w) ∷ []) same }
  stopped-as words old new same (Err (Begin fault)) none = absurd none
  stopped-as words old new same (Err (Refused fault)) none = absurd none
  stopped-as words old new same (Err Aborted) kept = (record { answer = answer; called = called }, kept)
  stopped-as words old new same (Err NotOpen) kept = (record { answer = answer; called = called }, kept)
  stopped-as words old new same (Err Memory) kept = (record { answer = answer; called = called }, kept)

-- a handle that stopped is seen
pub sees-stop : {D H T E : Type 0} (before after : List Stop) (old new : Sights D H) (answer : T) (ticket : ℕ) (words : WordMap) → after ≡ before ++ (ticket, words) ∷ [] → SeesStop old.stops new.stops ticket words → new.marks ≡ old.marks
    → SeesChange {D = D} {H = H} {T = T} {E = E} before after old new (Ok (answer, ticket))
sees-stop before after old new answer ticket words made sees marks = record {
  marks = marks;
  begins = sees.begins;
  higher = sees.higher;
  own = λ each. subst (All (StandsIn new.stops)) (sym made)
      (All-push (StandsIn new.stops) before (ticket, words) (λ k d lt. placed_on old.stops new.stops sees.begins (get_or before k d) (each k d lt)) sees.stands);
}

-- a client knows its own handles, once its seat is put back
pub own-again : {D H : Type 0} {O : Ghosts H} {P : Places H} (seen after last : Sights D H) (old new : Option (Seat H O P)) (seat back : Seat H O P) → old ≡ Some seat → new ≡ Some back → last ≡ after
    → (All (StandsIn seen.stops) (made_by seat) → All (StandsIn after.stops) (made_by back)) → All (StandsIn seen.stops) (made_from old) → All (StandsIn last.stops) (made_from new)
own-again seen after last old new seat back taken put same own each = rw (put, same) (own (rw taken at each))
