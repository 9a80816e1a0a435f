use Rattle.std.proofs.Common.{◌≡◌, length}
use Rattle.std.specs.Prelude.{All}
use Rattle.jb_alloc_faults.proofs.logs.log.Given as goal

abbrev pub invariant-loop-front : goal.invariant-loop-front
invariant-loop-front l = All (λ block. length block ≡ 1024) l.log.items
