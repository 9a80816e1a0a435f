use Rattle.std.proofs.Common.{arith}
use Rattle.proof_clients.proofs.ExampleEnds.{at_first, one-first}
use Rattle.proof_clients.proofs.ExampleIdle.{came-idle}
use Rattle.proof_clients.proofs.examples.closing.came_about.Goals as goal

pub returns-clause-meets : goal.returns-clause-meets
returns-clause-meets g c d bounds are = came-idle bounds are g.D.Disk d

pub returns-clause-not_twice : goal.returns-clause-not_twice
returns-clause-not_twice g c shape disk trail is = omega (arith, is.stopped.once at_first, one-first is.log)
