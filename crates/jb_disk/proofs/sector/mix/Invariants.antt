use Rattle.std.proofs.Common.{◌≡◌, ◌∷◌, get_or}
use Rattle.jb_disk.specs.CrashWrites.{bytes_of_writes}
use Rattle.jb_disk.specs.Image.{sector}
use Rattle.jb_disk.specs.Versions.{version}
use Rattle.jb_disk.proofs.BlockVersions.{IsPicked}
use Rattle.jb_disk.proofs.sector.mix.Given as goal

abbrev pub invariant-loop-k : goal.invariant-loop-k
invariant-loop-k l = IsPicked l.k (λ j x. x ≡ sector j (version (l.initial.block ∷ bytes_of_writes l.writes) (get_or l.choice j 0))) l.initial.block l.block
