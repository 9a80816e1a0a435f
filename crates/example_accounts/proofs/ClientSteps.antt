-- A client's calls one after another, and what its changes and its reads say.
use Rattle.std.proofs.Common.{◌≡◌, ℕ, List, [], ◌∷◌, ◌++◌, All, Some, Err, slice_get, refl, subst, ◌∙◌, arith}
use Rattle.std.specs.Borrow.{MutBor}
use Rattle.std.specs.Fn.{Once}
use mathlib.Core.List.{IsPrefix}
use Rattle.std.specs.Prelude.{Result}
use Rattle.jb_handle.specs.HeldChanges.{Held}
use Rattle.jb_handle.specs.declared.handle.Handle.{Handle}
use Rattle.jb_disk.specs.declared.disk.Disk.{Ghosts}
use Rattle.jb_board.specs.declared.place.Place.{Ghosts as Places}
use Rattle.jb_book.specs.declared.origin.Origin.{Ghosts as OriginGhosts}
use Rattle.jb_journal.proofs.ClientNotes.{first-trans}
use Rattle.jb_journal.specs.Change.{AnswersChange}
use Rattle.jb_journal.specs.Client.{ClientGoesOn, client_known}
use Rattle.jb_journal.specs.Names.{Begun, IsInHistory, StandsBy, Stopped, WordMap, word}
use Rattle.jb_journal.specs.Notes.{Known, ReadsAs, Stop}
use Rattle.jb_journal.specs.declared.client.Client.{Client}
use Rattle.jb_journal.specs.declared.fault.HandleFault.{HandleFault}
use Rattle.jb_journal.specs.declared.fault.HandleFault.TheVariants.{Begin, Refused, Aborted, NotOpen, Memory}

pub goes-trans : {D C R H : Type 0} {Q : Ghosts D} {O : OriginGhosts H} {P : Places H} (one two three : Client D C R H Q O P) → ClientGoesOn one two → ClientGoesOn two three → ClientGoesOn one three
goes-trans {Q = Q} one two three p q = record {
  knows = (
    first-trans (client_known one).log (client_known two).log (client_known three).log p.knows.0 q.knows.0,
    first-trans (client_known one).notes (client_known two).notes (client_known three).notes p.knows.1 q.knows.1,
  );
  honest = λ held. p.honest (q.honest held);
  shape = q.shape ∙ p.shape;
  commits = q.commits ∙ p.commits;
}

-- a first part of nothing is nothing
pub first-none : {A : Type 0} (xs ys : List A) → IsPrefix xs ys → ys ≡ [] → xs ≡ []
first-none [] ys p none = refl
first-none (x ∷ xs) ys p none = absurd (let e : x ∷ xs ++ p.0 ≡ [] = p.1 ∙ none in cc)

-- a change that is refused has stopped no handle
pub not-changed : {F T E : Type 0} (g : Once F (MutBor (Handle (Unit {0})) × Unit {0}) (Result T E × (MutBor (Handle (Unit {0})) × Unit {0}))) (f : F) (fresh : Held) (old new : List Stop) (fault : HandleFault E)
    → AnswersChange g f fresh old new (Err fault) → new ≡ old
not-changed g f fresh old new (Begin why) is = is.1
not-changed g f fresh old new (Refused why) is = is.1
not-changed g f fresh old new Aborted is = is.1
not-changed g f fresh old new NotOpen is = is.1
not-changed g f fresh old new Memory is = is.1

none-given : (log : List WordMap) (given : List Stopped) → log ≡ [] → All (IsInHistory log) given → given ≡ []
none-given log [] none are = refl
none-given log (h ∷ given) none are = absurd (let at : slice_get [] h.ticket ≡ Some h.words = subst (λ l. slice_get l h.ticket ≡ Some h.words) none (are 0 h (omega arith)) in cc)

-- what is read before any handle is known is what was there at the start
pub read-first : (b : Begun) (sure : Type 0) (before after : Known) (home : ℕ) (found : List ℕ) → ReadsAs b sure before after home found → after.log ≡ [] → b.is_known → sure → found ≡ b.homes home
read-first b sure before after home found read none is_known held =
    subst (λ hs. StandsBy (word hs home) (b.homes home) found) (none-given after.log read.given none read.are) (read.stands is_known held)
