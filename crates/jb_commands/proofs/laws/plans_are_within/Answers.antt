use Rattle.jb_commands.proofs.CertLength.{plans-readable, plans-within}
use Rattle.jb_commands.proofs.laws.plans_are_within.Goals as goal

pub returns-clause-nine : goal.returns-clause-nine
returns-clause-nine c = plans-within

pub returns-clause-readable : goal.returns-clause-readable
returns-clause-readable c = plans-readable
