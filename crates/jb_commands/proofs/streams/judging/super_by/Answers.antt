use Rattle.std.proofs.Common.{ap}
use Rattle.jb_commands.specs.Judge.{without_any}
use Rattle.jb_commands.proofs.Judgement.{reads-checked}
use Rattle.jb_commands.proofs.streams.judging.super_by.Goals as goal

pub returns-in-Ok-clause-reads : goal.returns-in-Ok-clause-reads
returns-in-Ok-clause-reads g c = λ held. rw c.in-Refused.is (ap without_any (c.in-Ok.ensures.reads held))

pub returns-in-Err-Super-clause-reads : goal.returns-in-Err-Super-clause-reads
returns-in-Err-Super-clause-reads g c = λ held. rw c.in-Refused.is (ap without_any (rw c.in-Err-Super.field-0-is at (c.in-Err-Super.ensures.reads held)))

pub returns-in-Allowed-clause-reads : goal.returns-in-Allowed-clause-reads
returns-in-Allowed-clause-reads g c = λ held.
    rw c.in-Allowed.is (reads-checked (g.D.Disk.size c.args.disk.now) (g.D.Disk.count c.args.disk.now) (g.D.Disk.newest c.args.disk.now) c.read_checked.result (c.read_checked.ensures.reads held))

pub returns-in-Unjudged-clause-reads : goal.returns-in-Unjudged-clause-reads
returns-in-Unjudged-clause-reads g c = λ held.
    rw c.in-Unjudged.is (reads-checked (g.D.Disk.size c.args.disk.now) (g.D.Disk.count c.args.disk.now) (g.D.Disk.newest c.args.disk.now) c.read_checked-in-Unjudged.result (c.read_checked-in-Unjudged.ensures.reads held))
