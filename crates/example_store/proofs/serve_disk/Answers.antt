use Rattle.example_store.proofs.StoreKeeps.{keeps-by}
use Rattle.example_store.proofs.serve_disk.Goals as goal

pub returns : goal.returns
returns g c =
    keeps-by g.D.Disk c.args.disk c.args.serving.now.commands.items c.in_ok-run.field-0
    c.new-2.result.workers c.new-2.ensures.threads.0 c.in_ok-run.ensures.ran
