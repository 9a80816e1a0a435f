use Rattle.jb_board.specs.History.{history_id}
use Rattle.example_accounts.proofs.running.move_on_disk.Given as goal

abbrev pub ghosts-move_by : goal.ghosts-move_by
ghosts-move_by g a = record { history = history_id a.history }
