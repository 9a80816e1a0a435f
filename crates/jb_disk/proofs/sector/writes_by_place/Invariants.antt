use Rattle.std.proofs.Common.{take}
use Rattle.jb_disk.specs.Calls.{steps_of}
use Rattle.jb_disk.proofs.WritesByPlace.{IsTable}
use Rattle.jb_disk.proofs.sector.writes_by_place.Given as goal

abbrev pub invariant-loop-call : goal.invariant-loop-call
invariant-loop-call l = IsTable l.count l.table.items (steps_of (take l.call-index l.calls))
