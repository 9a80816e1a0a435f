use Rattle.std.proofs.Common.{◌≡◌}
use Rattle.jb_handle.specs.Handle.{holder}
use Rattle.tests_desk.proofs.threads.change_all.Given as goal

abbrev pub invariant-loop-next : goal.invariant-loop-next
invariant-loop-next g l = holder l.handle ≡ holder l.initial.handle
