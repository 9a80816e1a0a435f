-- Handles that stand in the history of a desk's stops, and a journal that was given them: with less known of them, a new one, and its shape.
use Rattle.std.proofs.Common.{refl, ℕ, ◌∷◌, sym, subst, ◌≡◌, List, [], length, All, false, ap, ◌∙◌, arith}
use mathlib.Core.List.{IsPrefix}
use Rattle.jb_disk.specs.declared.disk.Disk.{Ghosts}
use Rattle.jb_handle.specs.declared.shape.Shape.{Shape}
use Rattle.jb_super.specs.Journal.{SameJournal}
use Rattle.jb_super.specs.Superblock.{Superblock}
use Rattle.jb_deck.specs.Deck.{IsShapeOf, OpenDeck}
use Rattle.jb_deck.specs.Done.{past_after}
use Rattle.jb_handle.specs.Word.{WordMap}
use Rattle.jb_handle.specs.declared.stopped.Stopped.{Stopped}
use Rattle.jb_board.proofs.EntryPlaces.{placed_on}
use Rattle.jb_book.specs.CallsToBook.{IsInHistory}
use Rattle.jb_book.specs.History.{IsStop}
use Rattle.jb_book.specs.Origin.{AreStops, Begun}
use Rattle.jb_book.specs.Since.{IsSince, IsSinceOf, may_stop}
use Rattle.jb_book.proofs.ShownTickets.{recorded-on}
use Rattle.jb_book.specs.SinceMark.{IsMarkedOf}
use Rattle.jb_book.proofs.SinceNoHandles.{given-as, is-weaker}
use Rattle.jb_book.proofs.MarksLast.{OnlyNow, marked-now}

-- what stands in a first part of the history stands in the whole
pub stop-on : (b : Begun) (xs ys : List WordMap) → IsPrefix xs ys → (h : Stopped) → IsStop b xs h → IsStop b ys h
stop-on b xs ys p h s = (s.0, placed_on xs ys p (h.ticket, h.words) s.1)

pub all-stops : (b : Begun) (xs ys : List WordMap) → IsPrefix xs ys → (hs : List Stopped) → AreStops b hs → All (IsInHistory xs) hs → All (IsStop b ys) hs
all-stops b xs ys p hs stops stand k d lt = (stops k d lt, recorded-on xs ys p hs stand k d lt)

-- a journal that has committed nothing was given no handle, so anything is known of each
pub none-given : {D : Type 0} (G : Ghosts D) (b : Begun) (known : Stopped → Type 0) (d : OpenDeck D) → d.trail ≡ [] → d.aborted ≡ false → IsSince G b d → IsSinceOf G b known d
none-given G b known d fresh up is =
    let none : length is.given ≡ 0 = is.has.all up ∙ ap (past_after 0) fresh in
    record { given = is.given; bounds = is.bounds; has = given-as (may_stop b) known is.given is.bounds d (λ k x lt. absurd (omega (arith, lt, none))) is.has; since = is.since; asked = is.asked }

-- less is known of each handle
pub marked-weaker : {D : Type 0} (G : Ghosts D) (b : Begun) (known less : Stopped → Type 0) → ((h : Stopped) → known h → less h) → (ms : List (OpenDeck D)) (d : OpenDeck D) → IsMarkedOf G b known ms d → IsMarkedOf G b less ms d
marked-weaker G b known less weaker ms d is = record { since = is-weaker G b known less weaker d is.since; marks_last = is.marks_last }

-- the one mark of a journal that has committed nothing is that of now
pub new-marked : {D : Type 0} (G : Ghosts D) → OnlyNow G → (b : Begun) (known : Stopped → Type 0) (ms : List (OpenDeck D)) (d : OpenDeck D) → ms ≡ d ∷ [] → d.trail ≡ [] → d.aborted ≡ false → IsSince G b d → IsMarkedOf G b known ms d
new-marked G only_now b known ms d one fresh up is =
    subst (λ x. IsMarkedOf G b known x d) (sym one) (marked-now G only_now b known [] d (rw fresh refl)
    (record { since = none-given G b known d fresh up is; marks_last = λ k m lt. absurd (omega (arith, lt)) }))

-- a journal's shape does not change with the place where its log begins
own-shape : (own sb : Superblock) (now count : ℕ) (shape : Shape) → SameJournal own sb → now ≡ count → IsShapeOf sb now shape → IsShapeOf own count shape
own-shape own sb now count shape same many is =
    let there = subst (λ (x : Superblock). IsShapeOf x count shape) same (subst (λ n. IsShapeOf sb n shape) many is) in assumption

module _ {D : Type 0} (G : Ghosts D) (b : Begun) (is : Stopped → Type 0) (d : OpenDeck D) where
  -- the shape of the desk's journal is that of the start, where the disk is honest now
  pub of-begun : (shape : Shape) → IsShapeOf d.log.sb (G.count d.disk) shape → IsSinceOf G b is d → b.is_known → G.honest d.disk → IsShapeOf b.own b.count shape
  of-begun shape there since known_start held = let s = since.since known_start held in own-shape b.own d.log.sb (G.count d.disk) b.count shape s.same s.same_count there
