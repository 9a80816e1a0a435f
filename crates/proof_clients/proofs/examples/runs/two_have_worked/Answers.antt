use Rattle.std.proofs.Common.{ap, ◌+◌, slice_get, arith, List}
use Rattle.proof_clients.specs.declared.telling.Found.{Found}
use Rattle.proof_clients.proofs.examples.runs.two_have_worked.Goals as goal

pub returns-clause-not_other_bytes : goal.returns-clause-not_other_bytes
returns-clause-not_other_bytes g c bytes other ticket disk ran apart honest are worked =
    apart (worked.read ticket ticket other (ap (λ (l : List Found). slice_get l 0) are) (ap (λ (l : List Found). slice_get l 1) are) honest).1

pub returns-clause-not_other_ticket : goal.returns-clause-not_other_ticket
returns-clause-not_other_ticket g c bytes ticket disk ran honest are worked =
    omega (arith, (worked.read ticket (ticket + 1) bytes (ap (λ (l : List Found). slice_get l 0) are) (ap (λ (l : List Found). slice_get l 1) are) honest).0)
