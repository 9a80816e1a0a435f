use Rattle.std.proofs.Common.{[]}
use Rattle.jb_disk.proofs.BlockVersions.{version-later}
use Rattle.jb_disk.proofs.sector.pick.Goals as goal

pub returns : goal.returns
returns c = λ old.
    version-later old c.args.writes.now c.args.number (record { ref_ptr = (0, 0); now = [] }) c.if-chosen-eq0.false
