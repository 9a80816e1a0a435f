use Rattle.std.proofs.Common.{◌≡◌, take}
use Rattle.jb_disk.specs.Calls.{steps_of, image_of}
use Rattle.jb_disk.specs.History.{replay}
use Rattle.jb_disk.proofs.sector.replay_calls.Given as goal

abbrev pub invariant-loop-call : goal.invariant-loop-call
invariant-loop-call l = image_of l.image ≡ replay (image_of l.initial.image) (steps_of (take l.call-index l.calls))
