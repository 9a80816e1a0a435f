use Rattle.example_accounts.proofs.RunPosted.{conserved-by}
use Rattle.example_accounts.proofs.running.move_by.Goals as goal

pub returns : goal.returns
returns g c = conserved-by g.D.Disk c.args.disk c.new-2.result.workers c.new-2.ensures.threads.0 c.in_ok-ran.ran c.told.result c.told.ensures c.in_ok-ran.ensures.ran
