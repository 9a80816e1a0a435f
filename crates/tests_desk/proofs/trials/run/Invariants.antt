use Rattle.jb_book.specs.Origin.{unknown}
use Rattle.jb_desk.specs.History.{history_in}
use Rattle.jb_board.specs.History.{history_id}
use Rattle.tests_desk.proofs.trials.run.Given as goal

abbrev pub ghosts-started-H-Ledger : goal.ghosts-started-H-Ledger
ghosts-started-H-Ledger g a = record { name = a.handles.tickets.name; parts = a.handles.tickets.parts }

abbrev pub ghosts-started-H-Place : goal.ghosts-started-H-Place
ghosts-started-H-Place g a = record { history = history_in a.handles }

abbrev pub ghosts-started-H-Origin : goal.ghosts-started-H-Origin
ghosts-started-H-Origin g a = record { marks = history_id a.marks; begun = unknown }
