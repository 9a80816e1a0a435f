use Rattle.std.proofs.Common.{rules}
use Rattle.jb_commands.proofs.plan.plan_told.Goals as goal

pub returns : goal.returns
returns c = record { said = (c.in_ok-cert.cert, c.in_ok-cert.ensures.best, search rules) }
