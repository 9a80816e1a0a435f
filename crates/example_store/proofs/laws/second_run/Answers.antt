use Rattle.example_store.proofs.NextRuns.{second-finds, second-goes-on}
use Rattle.example_store.proofs.laws.second_run.Goals as goal

pub returns : goal.returns
returns g c = record { goes_on = second-goes-on g.S.Start g.T.Start; finds = second-finds g.S.Start g.T.Start }
