-- What contracts say of a seat and of what it leaves: which board it is of, what it has seen, and what it has counted.
use Rattle.std.specs.Prelude.{◌≡◌, ℕ, ◌+◌, ◌^◌, ◌≤◌, List, [], ◌∷◌, ◌++◌}
use Rattle.std.specs.List.{sum_by}
use Rattle.jb_handle.specs.HeldChanges.{Held, touched_count}
use Rattle.jb_handle.specs.Word.{WordMap}
use Rattle.jb_board.specs.Seats.{BoardId, seat_board, seat_view}
use Rattle.jb_board.specs.Steps.{raised_stopped}
use Rattle.jb_board.specs.declared.front.Front.{Front}
use Rattle.jb_book.specs.Account.{changed_by}
use Rattle.jb_book.specs.declared.origin.Origin.{Ghosts}
use Rattle.jb_board.specs.declared.place.Place.{Ghosts as Places}
use Rattle.jb_desk.specs.declared.seat.Seat.{Seat}
use Rattle.jb_desk.specs.declared.seat.Left.{Left}

-- how many handles stopped with the seat
abbrev pub stops : {H : Type 0} {O : Ghosts H} {P : Places H} → Seat H O P → ℕ
stops s = s.handles.amount

-- how many home blocks these handles had touched, added up: each has a word for each
abbrev pub changes : {H : Type 0} {O : Ghosts H} {P : Places H} → Seat H O P → ℕ
changes s = sum_by changed_by s.made

-- the number of a seat in the book
abbrev pub seat_number : {H : Type 0} {O : Ghosts H} {P : Places H} → Seat H O P → ℕ
seat_number s = s.number

-- the board of the desk that gave the seat
abbrev pub desk_of : {H : Type 0} {O : Ghosts H} {P : Places H} → Seat H O P → BoardId
desk_of s = seat_board s.board

-- the counts that the seat is sure of
abbrev pub view_of : {H : Type 0} {O : Ghosts H} {P : Places H} → Seat H O P → Front
view_of s = seat_view s.board

-- the stops of a seat that has left
abbrev pub stops_left : {H : Type 0} {O : Ghosts H} {P : Places H} → Left H O P → ℕ
stops_left l = l.handles.amount

-- the home blocks that its handles had touched
abbrev pub changes_left : {H : Type 0} {O : Ghosts H} {P : Places H} → Left H O P → ℕ
changes_left l = sum_by changed_by l.made

-- the handles that stopped with the seat, each with its ticket and its words
abbrev pub made_by : {H : Type 0} {O : Ghosts H} {P : Places H} → Seat H O P → List (ℕ × WordMap)
made_by s = s.made

-- the handles that stopped with a seat that has left
abbrev pub made_left : {H : Type 0} {O : Ghosts H} {P : Places H} → Left H O P → List (ℕ × WordMap)
made_left l = l.made

-- the same handles stopped with the seat before and after
abbrev pub KeepsStops : {H : Type 0} {O : Ghosts H} {P : Places H} → Seat H O P → Seat H O P → Type 0
KeepsStops old new = (stops new ≡ stops old) × (changes new ≡ changes old) × (made_by new ≡ made_by old)

-- the seat is the same but for what it is sure of: it has its desk and its number, and the same handles stopped with it
pub record KeepsSeat {H : Type 0} {O : Ghosts H} {P : Places H} (old new : Seat H O P) : Type 0 where
  pub desk : desk_of new ≡ desk_of old
  pub number : seat_number new ≡ seat_number old
  pub counted : KeepsStops old new

-- one handle more stopped with the seat: under this ticket and with these changes
pub record AddsStop {H : Type 0} {O : Ghosts H} {P : Places H} (ticket : ℕ) (handle : Held) (old new : Seat H O P)
    : Type 0 where
  pub stopped : stops new ≡ stops old + 1
  pub touched : changes new ≡ changes old + touched_count handle
  pub made : made_by new ≡ made_by old ++ (ticket, handle.words) ∷ []

-- the seat is the same but for the handle that stopped with it: it counts the handle, and is sure that the tickets up
-- to the handle's have stopped
pub record CountsStop {H : Type 0} {O : Ghosts H} {P : Places H} (ticket : ℕ) (handle : Held) (old new : Seat H O P)
    : Type 0 where
  pub desk : desk_of new ≡ desk_of old
  pub number : seat_number new ≡ seat_number old
  pub counted : AddsStop ticket handle old new
  pub view : view_of new ≡ raised_stopped (view_of old) (ticket + 1)

-- what seats have left adds up to this many handles, and to this many home blocks that these had touched; neither is
-- above 2 ^ 61
pub record AddsUp {H : Type 0} {O : Ghosts H} {P : Places H} (lefts : List (Left H O P)) (handles touched : ℕ)
    : Type 0 where
  pub all_handles : handles ≡ sum_by stops_left lefts
  pub all_touched : touched ≡ sum_by changes_left lefts
  pub few_handles : handles ≤ 2 ^ 61
  pub few_touched : touched ≤ 2 ^ 61
