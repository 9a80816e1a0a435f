use Rattle.jb_board.specs.History.{history_id}
use Rattle.tests_recover.proofs.shared.two_threads_put_into_one_history.Given as goal

abbrev pub ghosts-both_put : goal.ghosts-both_put
ghosts-both_put g a = record { history = history_id a.opened }
