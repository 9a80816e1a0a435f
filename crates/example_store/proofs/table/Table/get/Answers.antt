use Rattle.std.proofs.Common.{sym, ap, ◌∙◌, option_map}
use Rattle.std.proofs.lemmas.List.Quantifiers.{position-Some}
use Rattle.example_store.proofs.TableLemmas.{at-first, found, free, is, missed, nowhere}
use Rattle.example_store.proofs.table.Table.get.Goals as goal

pub returns-in_err-at : goal.returns-in_err-at
returns-in_err-at c = c.from_residual.ensures ∙ ap (option_map (λ s. s.value)) (sym (missed (is c.args.key) c.args.self.now.slots (nowhere (is c.args.key) c.args.self.now.slots (sym c.place.ensures ∙ c.in_err-at.was))))

pub returns : goal.returns
returns c =
    let at = sym c.place.ensures ∙ c.in_ok-at.was in
    let p = is c.args.key in
    let slots = c.args.self.now.slots in
    ap (option_map (λ s. s.value)) (sym (found p slots c.in_ok-at.at (at-first p slots c.in_ok-at.at at) (position-Some p slots c.in_ok-at.at free at).0))
