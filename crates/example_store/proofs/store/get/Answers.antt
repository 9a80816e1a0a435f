use Rattle.std.proofs.Common.{ap, ◌∙◌}
use Rattle.example_store.specs.Tables.{value_in}
use Rattle.example_store.proofs.store.get.Goals as goal

pub returns-clause-value : goal.returns-clause-value
returns-clause-value g c =
    let was = c.in_ok-table.ensures.reads in
    record {
      bytes = was.bytes;
      read = was.read;
      said = c.get.ensures ∙ ap (λ slots. value_in slots c.args.key) was.said;
    }
