use Rattle.jb_book.specs.Origin.{unknown}
use Rattle.jb_desk.specs.History.{history_in}
use Rattle.jb_board.specs.History.{history_id}
use Rattle.tests_desk.proofs.trials.run_failing.Given as goal

abbrev pub ghosts-started_failing-H-Ledger : goal.ghosts-started_failing-H-Ledger
ghosts-started_failing-H-Ledger g a = record { name = a.handles.tickets.name; parts = a.handles.tickets.parts }

abbrev pub ghosts-started_failing-H-Place : goal.ghosts-started_failing-H-Place
ghosts-started_failing-H-Place g a = record { history = history_in a.handles }

abbrev pub ghosts-started_failing-H-Origin : goal.ghosts-started_failing-H-Origin
ghosts-started_failing-H-Origin g a = record { marks = history_id a.marks; begun = unknown }
