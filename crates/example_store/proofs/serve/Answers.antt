use Rattle.jb_journal.specs.Names.{as_file}
use Rattle.example_store.proofs.StoreKeeps.{keeps-by}
use Rattle.example_store.proofs.serve.Goals as goal

pub returns : goal.returns
returns g c =
    let done = c.in_ok-run_image.ensures.ran in
    record {
      opened = done.opened;
      ready = done.ready;
      keeps = keeps-by as_file done.opened c.args.serving.now.commands.items c.in_ok-run_image.field-0 c.new.result.workers c.new.ensures.threads.0
          done.ran;
    }
