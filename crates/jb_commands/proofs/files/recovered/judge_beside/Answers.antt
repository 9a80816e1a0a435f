use Rattle.std.proofs.Common.{refl}
use Rattle.jb_commands.proofs.files.recovered.judge_beside.Goals as goal

pub returns-then-beside : goal.returns-then-beside
returns-then-beside g c = record { judges = rw c.if-beside.true c.judge_on.ensures.judges }

pub returns-else-beside : goal.returns-else-beside
returns-else-beside g c = record { judges = rw c.if-beside.false (refl, refl) }
