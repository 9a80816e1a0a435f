-- What contracts say of a board, of a seat and of what shows that tickets were given: which board it is, what the seat
-- is sure of, and how many tickets these are.
use Rattle.std.specs.Prelude.{ℕ}
use Rattle.atomic_table.specs.Seated.{TableId}
use Rattle.jb_board.specs.declared.front.Front.{Front}
use Rattle.jb_board.specs.declared.board.Board.{Board}
use Rattle.jb_board.specs.declared.board.BoardSeat.{BoardSeat}
use Rattle.jb_board.specs.declared.tickets.Tickets.{Tickets}

-- the identity of a board
abbrev pub BoardId : Type 0
BoardId = TableId

-- which board this is
abbrev pub board_id : {L : Type 0} → Board L → BoardId
board_id b = b.words.table.shared.table_id

-- the board that a seat is of
abbrev pub seat_board : BoardSeat → BoardId
seat_board s = s.seat.table_id

-- the counts that a seat is sure of: the board's are at least these
abbrev pub seat_view : BoardSeat → Front
seat_view s = s.seat.me.0

-- this many tickets were given at least
abbrev pub given_by : {L : Type 0} → Tickets L → ℕ
given_by t = t.count
