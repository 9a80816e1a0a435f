use Rattle.jb_book.specs.Origin.{unknown}
use Rattle.jb_desk.specs.History.{history_in}
use Rattle.jb_board.specs.History.{history_id}
use Rattle.tests_desk.proofs.load.run_load.Given as goal

abbrev pub ghosts-outcome_of-H-Ledger : goal.ghosts-outcome_of-H-Ledger
ghosts-outcome_of-H-Ledger g a = record { name = a.handles.tickets.name; parts = a.handles.tickets.parts }

abbrev pub ghosts-outcome_of-H-Place : goal.ghosts-outcome_of-H-Place
ghosts-outcome_of-H-Place g a = record { history = history_in a.handles }

abbrev pub ghosts-outcome_of-H-Origin : goal.ghosts-outcome_of-H-Origin
ghosts-outcome_of-H-Origin g a = record { marks = history_id a.marks; begun = unknown }
