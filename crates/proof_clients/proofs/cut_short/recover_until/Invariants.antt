use Rattle.std.proofs.Common.{◌≡◌}
use Rattle.proof_clients.proofs.cut_short.recover_until.Given as goal

abbrev pub ghosts-recover_traced : goal.ghosts-recover_traced
ghosts-recover_traced g a = record { is_first = λ d. d ≡ a.disk }
