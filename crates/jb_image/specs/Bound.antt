-- The members of a disk, as a law has them.
use denote.RattleType.{RattleType}
use mir.Syntax.{Dict}
use Rattle.jb_disk.specs.contracts.disk.Disk.TheBound.{All}
use Rattle.jb_disk.specs.declared.disk.Disk.{Ghosts}

-- those of a type parameter
abbrev pub members : {R : RattleType} {G : Ghosts R.Denot} {calls : Dict} → All R G calls → Ghosts R.Denot
members {G = G} laws = G
