use Rattle.std.proofs.Common.{◌≡◌}
use Rattle.proof_clients.proofs.cut_short.commit_until.Given as goal

abbrev pub ghosts-commit_traced : goal.ghosts-commit_traced
ghosts-commit_traced g a = record { is_first = λ d. d ≡ a.disk }
