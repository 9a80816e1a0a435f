use Rattle.jb_disk.specs.Faults.{CountsFault}
use Rattle.jb_disk.specs.Runs.{TornRun}
use Rattle.jb_image.proofs.ImageCalls.{keeps-one, keeps-two, keeps-within, steps-two, steps-within}
use Rattle.jb_image.proofs.image.ImageDiskDisk.write_run.Goals as goal

pub returns-in-Two-clause-steps : goal.returns-in-Two-clause-steps
returns-in-Two-clause-steps g c honest =
    steps-two g.D.Disk g.E.Disk (λ size. TornRun size c.args.blocks c.args.place c.args.bytes.now) c.args.self.now c.in-Two.pair c.write_run-in-Two.new.self c.in-Two.is (c.write_run-in-Two.ensures.steps honest)

pub returns-in-Within-clause-steps : goal.returns-in-Within-clause-steps
returns-in-Within-clause-steps g c honest =
    steps-within g.D.Disk g.E.Disk (λ size. TornRun size c.args.blocks c.args.place c.args.bytes.now) c.args.self.now c.in-Within.disk c.write_run-in-Within.new.self c.in-Within.is (c.write_run-in-Within.ensures.steps honest)

pub returns-in-One-clause-kept : goal.returns-in-One-clause-kept
returns-in-One-clause-kept g c = keeps-one g.D.Disk g.E.Disk (CountsFault c.write_run.result) c.in-One.is c.write_run.ensures.kept

pub returns-in-Two-clause-kept : goal.returns-in-Two-clause-kept
returns-in-Two-clause-kept g c = keeps-two g.D.Disk g.E.Disk (CountsFault c.write_run-in-Two.result) c.in-Two.is c.write_run-in-Two.ensures.kept

pub returns-in-Within-clause-kept : goal.returns-in-Within-clause-kept
returns-in-Within-clause-kept g c = keeps-within g.D.Disk g.E.Disk (CountsFault c.write_run-in-Within.result) c.in-Within.is c.write_run-in-Within.ensures.kept
