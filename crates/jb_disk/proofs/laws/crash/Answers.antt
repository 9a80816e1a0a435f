use Rattle.jb_disk.proofs.CrashImage.{left-versions, left-chosen}
use Rattle.jb_disk.proofs.laws.crash.Goals as goal

pub returns : goal.returns
returns c = record { versions = left-versions; choices = left-chosen }
