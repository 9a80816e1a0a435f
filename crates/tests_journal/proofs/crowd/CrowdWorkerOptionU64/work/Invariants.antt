use Rattle.jb_journal.specs.Client.{IsClient}
use Rattle.tests_journal.proofs.crowd.CrowdWorkerOptionU64.work.Given as goal

-- the client can look
abbrev pub invariant-loop : goal.invariant-loop
invariant-loop g l = IsClient g.H.Origin.begun l.client
