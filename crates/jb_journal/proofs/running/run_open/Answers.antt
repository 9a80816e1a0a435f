use Rattle.std.proofs.Common.{inl}
use Rattle.std.proofs.lemmas.Result.{IfErr-weaker}
use Rattle.jb_journal.proofs.running.run_open.Goals as goal

pub returns-in-Ok-start-clause-faults : goal.returns-in-Ok-start-clause-faults
returns-in-Ok-start-clause-faults g c = IfErr-weaker c.run_at.result _ _ (λ back stops. inl stops) c.run_at.ensures.faults
