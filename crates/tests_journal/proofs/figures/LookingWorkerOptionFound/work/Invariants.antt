use Rattle.jb_journal.specs.Client.{IsClient}
use Rattle.tests_journal.proofs.figures.LookingWorkerOptionFound.work.Given as goal

-- the client can change and be asked
abbrev pub invariant-loop : goal.invariant-loop
invariant-loop g l = IsClient g.H.Origin.begun l.client
