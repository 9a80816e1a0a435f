-- The state of a journal since its desk was started: which handles it was given, what its homes hold, and what a crash
-- leaves.
use Rattle.std.specs.Prelude.{◌≡◌, ◌⊎◌, ℕ, ◌+◌, ◌-◌, ◌<◌, ◌≤◌, ◌^◌, Bool, false, List, [], ◌∷◌, ◌++◌, All, Some, length}
use Rattle.std.specs.Prelude.{map, slice_get, take}
use Rattle.jb_disk.specs.Image.{Image}
use Rattle.jb_disk.specs.Faults.{most_faults}
use Rattle.jb_disk.specs.declared.disk.Disk.{Ghosts}
use Rattle.jb_cost.specs.Cut.{IsCut}
use Rattle.jb_plan.specs.Costs.{cost_in}
use Rattle.jb_handle.specs.Tickets.{TicketsFrom}
use Rattle.jb_handle.specs.Words.{word}
use Rattle.jb_handle.specs.declared.shape.Shape.{Shape}
use Rattle.jb_handle.specs.declared.stopped.Stopped.{Stopped}
use Rattle.jb_super.specs.Journal.{SameJournal}
use Rattle.jb_deck.specs.Conduct.{DeckIsWellAsked}
use Rattle.jb_deck.specs.Deck.{OpenDeck}
use Rattle.jb_deck.specs.Done.{past_after, start_of}
use Rattle.jb_log.specs.Follows.{StandsBy}
use Rattle.jb_deck.specs.Open.{recovered_home, FollowsEntry}
use Rattle.jb_deck.specs.Calls.{IsRecoveredTo}
use Rattle.jb_deck.specs.Since.{LiveOf, deck_homes}
use Rattle.jb_deck.specs.declared.done.Entry.{Entry}
use Rattle.jb_book.specs.Origin.{Begun, own_on}

-- An image of the journal of the start that recovery accepts, and that is recovered to the homes of the start with the
-- first of these handles, at least `least`. These are the handles of the first groups, where all are cut into groups at
-- these bounds; and as many numbers are used after that of the start as there are such groups
pub record HasFirst (b : Begun) (given : List Stopped) (bounds : List ℕ) (least : ℕ) (c : Image) : Type 0 where
  pub groups : ℕ
  pub many : ℕ
  pub between : slice_get bounds groups ≡ Some many
  pub from : least ≤ many
  pub to : many ≤ length given
  pub recovered
      : IsRecoveredTo b.own (b.own.sequence + 1 + groups) b.size b.count b.homes (take many given) c

-- the handle stopped with words that a handle may stop with
abbrev pub may_stop : Begun → Stopped → Type 0
may_stop b h = b.stops h.words

-- the entry is of handles of this list, one at least, and its blocks are what these cost as one group of a journal of
-- this shape
pub record IsCosted (shape : Shape) (given : List Stopped) (e : Entry) : Type 0 where
  pub some : e.first < e.past
  pub within : e.past ≤ length given
  pub blocks : e.blocks ≡ cost_in shape given e.first e.past

-- the entries have the numbers from this one on
abbrev pub NumberedFrom : ℕ → List Entry → Type 0
NumberedFrom number [] = Unit {0}
NumberedFrom number (e ∷ es) = (e.number ≡ number) × NumberedFrom (number + 1) es

-- The groups of this trail are some of those into which handles are cut at these bounds, one after the other; before
-- them are those whose entries were taken from it. After them there are some only where the journal has failed: those
-- of the batch that was in its hands
pub record AreGroups (aborted : Bool) (trail : List Entry) (bounds : List ℕ) : Type 0 where
  pub early : List ℕ
  pub late : List ℕ
  pub is : bounds ≡ (early ++ start_of trail ∷ map (λ (e : Entry). e.past) trail) ++ late
  pub all : aborted ≡ false → late ≡ []

-- The handles that a journal was given, by ticket, each as `is` says, and the bounds at which they are cut into groups:
-- those settled in its trail, each group with its cost, and on a journal that has failed the batch in hand after them.
-- The numbers of the trail rise by one, up to the journal's next one
pub record WasGiven {D : Type 0} (is : Stopped → Type 0) (given : List Stopped) (bounds : List ℕ) (d : OpenDeck D)
    : Type 0 where
  pub stopped : All is given
  pub tickets : TicketsFrom 0 given
  pub settled : past_after 0 d.trail ≤ length given
  pub all : d.aborted ≡ false → length given ≡ past_after 0 d.trail
  pub cut : IsCut (length given) bounds
  pub groups : AreGroups d.aborted d.trail bounds
  pub costs : All (IsCosted d.shape given) d.trail
  pub first : ℕ
  pub numbers : NumberedFrom first d.trail
  pub next : first + length d.trail ≡ d.log.next

-- The journal of the start, on its disk, after it was given these handles, in groups with these bounds. While it has
-- not failed its homes are as they say, those that are free aside.
pub record Since {D : Type 0} (G : Ghosts D) (b : Begun) (given : List Stopped) (bounds : List ℕ) (d : OpenDeck D)
    : Type 0 where
  pub same_size : G.size d.disk ≡ b.size
  pub same_count : G.count d.disk ≡ b.count
  -- it has not failed unless a call of the disk has
  pub no_fewer : b.faults ≤ G.faults d.disk
  pub up : b.faults < 2 ^ 64 - 1 → G.faults d.disk ≡ b.faults → d.aborted ≡ false
  pub same : SameJournal b.own d.log.sb
  -- so many groups are settled, and each has used a number
  pub groups : ℕ
  pub settled : slice_get bounds groups ≡ Some (past_after 0 d.trail)
  pub number : d.log.next ≡ b.own.sequence + 1 + groups
  -- a trail from which nothing was removed begins with the number after that of the start
  pub began : start_of d.trail ≡ 0 → d.log.next ≡ b.own.sequence + 1 + length d.trail
  pub stood : d.aborted ≡ false → (home : ℕ) → StandsBy (word given home) (b.homes home) (deck_homes G.newest d home)
  pub live : d.aborted ≡ false → LiveOf given d.groups
  -- what a crash may leave now has the settled ones at least
  pub now : (c : Image) → G.may_leave d.disk c → HasFirst b given bounds (past_after 0 d.trail) c
  -- what a crash since that moment might have left
  pub later : b.since ≤ G.moment d.disk
  pub ever : (c : Image) → G.left_since d.disk b.since c → b.left c ⊎ HasFirst b given bounds 0 c

-- The journal was given handles, each as `is` says, in groups (`WasGiven`), and where the start is known and the disk
-- is honest now, `Since` holds of it. Where no write and no sync of the disk had failed at the start, no call came
-- after one that has: the count of faults says so while it is not at its top
pub record IsSinceOf {D : Type 0} (G : Ghosts D) (b : Begun) (is : Stopped → Type 0) (d : OpenDeck D) : Type 0 where
  pub given : List Stopped
  pub bounds : List ℕ
  pub has : WasGiven is given bounds d
  pub since : b.is_known → G.honest d.disk → Since G b given bounds d
  pub asked : b.none_failed → G.faults d.disk < most_faults → DeckIsWellAsked G d

-- the same of handles that each stopped with words that a handle may stop with
abbrev pub IsSince : {D : Type 0} → Ghosts D → Begun → OpenDeck D → Type 0
IsSince G b d = IsSinceOf G b (may_stop b) d

-- the disk and the trail are those of a journal that is as it must be since the start
pub record EndsSince {D : Type 0} (G : Ghosts D) (b : Begun) (disk : D) (trail : List Entry) : Type 0 where
  pub deck : OpenDeck D
  pub same_disk : deck.disk ≡ disk
  pub same_trail : deck.trail ≡ trail
  pub since : IsSince G b deck

-- Of the disk that a desk, or a run, gives back: where no write and no sync of it had failed at the start, no call came
-- after one that has failed since (reads of homes that failed aside, after which calls may follow). Its count of faults
-- says so while it is not at its top
abbrev pub NoneAfterAtDesk : {D : Type 0} → Ghosts D → Begun → Type 0
NoneAfterAtDesk {D} G b =
    (disk : D) (trail : List Entry) → EndsSince G b disk trail → b.none_failed → G.faults disk < most_faults
    → G.well_asked disk

-- The start is that of the journal on this disk, once it is opened: its homes were as recovery leaves them, and what a
-- crash might have left has what it might leave before the journal is opened and meanwhile. Where it says that no write
-- and no sync had failed, none has.
pub record IsBegunOn {D : Type 0} (G : Ghosts D) (b : Begun) (disk : D) : Type 0 where
  pub same_size : G.size disk ≡ b.size
  pub same_count : G.count disk ≡ b.count
  pub same_faults : G.faults disk ≡ b.faults
  pub asked : b.none_failed → G.well_asked disk × G.may_go_on disk
  pub own : own_on (G.size disk) (G.count disk) (G.newest disk) ≡ b.own
  pub homes : (home : ℕ) → recovered_home (G.size disk) (G.count disk) (G.newest disk) home ≡ b.homes home
  pub later : b.since ≤ G.moment disk
  pub ever : b.is_known → G.honest disk → (c : Image) → G.left_since disk b.since c → b.left c
  pub opening : (c : Image) → FollowsEntry (G.size disk) (G.count disk) (G.newest disk) c → b.left c
