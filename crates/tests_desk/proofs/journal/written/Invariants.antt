use Rattle.std.proofs.Common.{◌≡◌}
use Rattle.jb_handle.specs.Handle.{holder}
use Rattle.tests_desk.proofs.journal.written.Given as goal

abbrev pub invariant-loop-home : goal.invariant-loop-home
invariant-loop-home g l = holder l.handle ≡ holder l.initial.handle
