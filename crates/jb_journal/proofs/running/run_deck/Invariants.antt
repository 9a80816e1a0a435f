use Rattle.jb_desk.specs.History.{history_in}
use Rattle.jb_board.specs.History.{history_id}
use Rattle.jb_journal.proofs.running.run_deck.Given as goal

abbrev pub ghosts-run_open-H-Ledger : goal.ghosts-run_open-H-Ledger
ghosts-run_open-H-Ledger g a = record { name = a.handles.tickets.name; parts = a.handles.tickets.parts }

abbrev pub ghosts-run_open-H-Place : goal.ghosts-run_open-H-Place
ghosts-run_open-H-Place g a = record { history = history_in a.handles }

-- the start is that of the caller
abbrev pub ghosts-run_open-H-Origin : goal.ghosts-run_open-H-Origin
ghosts-run_open-H-Origin g a = record { marks = history_id a.marks; begun = g.H.Origin.begun }
