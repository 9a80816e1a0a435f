-- What a stop makes of a handle, its seat and the book.
use Rattle.std.specs.Prelude.{◌≡◌, ℕ, ◌^◌, ◌≤◌, true}
use Rattle.jb_handle.specs.Handle.{holder, changes_of}
use Rattle.jb_handle.specs.declared.handle.Handle.{Handle}
use Rattle.jb_book.specs.Account.{Account, queued, dropped_of, CanStop, RefusesStop}
use Rattle.jb_desk.specs.Seats.{AddsStop}
use Rattle.jb_book.specs.declared.fault.EnqueueFault.TheVariants as book
use Rattle.jb_book.specs.declared.origin.Origin.{Ghosts}
use Rattle.jb_board.specs.declared.place.Place.{Ghosts as Places}
use Rattle.jb_desk.specs.declared.seat.Seat.{Seat}
use Rattle.jb_desk.specs.declared.fault.StopFault.{StopFault}
use Rattle.jb_desk.specs.declared.fault.StopFault.TheVariants.{Aborted, NotOpen, Memory}

-- the handle has stopped: its words are queued under the next ticket, and its seat counts it and the homes that it
-- touched
pub record IsStopped {H : Type 0} {O : Ghosts H} {P : Places H} (handle : Handle (Seat H O P)) (old : Account)
    (seat : Seat H O P) (ticket : ℕ) (new : Account) : Type 0 where
  pub same_number : seat.number ≡ (holder handle).number
  pub same_board : seat.board ≡ (holder handle).board
  pub could : CanStop old seat.number (changes_of handle).words
  pub queued_as : new ≡ queued seat.number (changes_of handle).words old
  pub next : ticket ≡ old.shadow.next
  pub few : ticket ≤ 2 ^ 61
  pub counted : AddsStop ticket (changes_of handle) (holder handle) seat

-- why it has not, and what is kept
abbrev pub RefusesStopOf : {H : Type 0} {O : Ghosts H} {P : Places H} → Handle (Seat H O P) → Account
    → StopFault H O P → Account → Type 0
RefusesStopOf handle old (Aborted seat) new =
    (old.aborted ≡ true) × (seat ≡ holder handle) × (new ≡ dropped_of seat.number old)
RefusesStopOf handle old (NotOpen back) new =
    RefusesStop old (holder handle).number (changes_of handle).words book.NotOpen × (back ≡ handle) × (new ≡ old)
RefusesStopOf handle old (Memory back) new =
    RefusesStop old (holder handle).number (changes_of handle).words book.Memory × (back ≡ handle) × (new ≡ old)
