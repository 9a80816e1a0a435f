-- What contracts say of a desk: what tells it from every other, and the journal that its handles are for.
use Rattle.jb_board.specs.Seats.{BoardId, board_id}
use Rattle.jb_handle.specs.declared.shape.Shape.{Shape}
use Rattle.jb_desk.specs.declared.desk.Desk.{Desk}
use Rattle.jb_disk.specs.declared.disk.Disk.{Ghosts as Disks}
use Rattle.jb_book.specs.declared.origin.Origin.{Ghosts}
use Rattle.jb_board.specs.declared.place.Place.{Ghosts as Places}

-- the board of the desk, which tells it from every other
abbrev pub desk_id : {D C H : Type 0} {Q : Disks D} {O : Ghosts H} {P : Places H} → Desk D C H Q O P → BoardId
desk_id d = board_id d.board.board

-- the shape of the journal
abbrev pub shape_in : {D C H : Type 0} {Q : Disks D} {O : Ghosts H} {P : Places H} → Desk D C H Q O P → Shape
shape_in d = d.shape
