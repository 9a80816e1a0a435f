use Rattle.std.proofs.Common.{sym, ◌∙◌, ap, Some}
use Rattle.example_store.proofs.TableLemmas.{put-free, put-own}
use Rattle.example_store.proofs.table.Table.put.Goals as goal
use Rattle.example_store.proofs.table.Table.put.Goals.{in-Some, in-None+in-Some-place}

pub returns : goal.returns
returns c = elim c.match-place.branch [
  | in-Some w ↦ put-own c.args.self.now.slots c.match-place.at c.args.key c.args.value (sym c.place.ensures ∙ w.in-Some.is ∙ ap Some (sym w.at-is))
  | in-None+in-Some-place w ↦ put-free c.args.self.now.slots c.match-place.at c.args.key c.args.value (sym c.place.ensures ∙ w.in-None.is) (sym w.place-in-None.ensures ∙ w.in-Some-place.is ∙ ap Some (sym w.at-is))
]
