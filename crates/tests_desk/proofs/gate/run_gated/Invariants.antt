use Rattle.jb_book.specs.Origin.{unknown}
use Rattle.jb_desk.specs.History.{history_in}
use Rattle.jb_board.specs.History.{history_id}
use Rattle.tests_desk.proofs.gate.run_gated.Given as goal

abbrev pub ghosts-gated-H-Ledger : goal.ghosts-gated-H-Ledger
ghosts-gated-H-Ledger g a = record { name = a.handles.tickets.name; parts = a.handles.tickets.parts }

abbrev pub ghosts-gated-H-Place : goal.ghosts-gated-H-Place
ghosts-gated-H-Place g a = record { history = history_in a.handles }

abbrev pub ghosts-gated-H-Origin : goal.ghosts-gated-H-Origin
ghosts-gated-H-Origin g a = record { marks = history_id a.marks; begun = unknown }
