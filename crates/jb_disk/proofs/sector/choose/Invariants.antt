use Rattle.std.proofs.Common.{length}
use Rattle.jb_disk.specs.Calls.{image_of}
use Rattle.jb_disk.specs.CrashWrites.{table_of}
use Rattle.jb_disk.proofs.ImageVersions.{AreChosen}
use Rattle.jb_disk.proofs.sector.choose.Given as goal

abbrev pub invariant-loop-place : goal.invariant-loop-place
invariant-loop-place l = AreChosen l.sectors (length l.initial.image) l.place (image_of l.initial.image) (table_of l.writes) l.choice l.rest (image_of l.image)
