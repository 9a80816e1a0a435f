use Rattle.std.proofs.Common.{None, get_or, take, sym, ap, ◌∙◌}
use Rattle.std.proofs.lemmas.List.{take_more}
use Rattle.jb_tool.specs.FirstRefused.{earlier_refused, first_after}
use Rattle.jb_tool.proofs.EarliestRefused.{first-more}
use Rattle.jb_tool.proofs.loading.counting.first_of.Goals as goal

pub loop-refused-preserved : goal.loop-refused-preserved
loop-refused-preserved c =
    let i = c.loop-refused.refused-index in
    let answers = c.args.answers.now in
    c.earlier-first.ensures ∙ ap (λ r. earlier_refused r (get_or answers i None)) c.loop-refused.invariant
    ∙ sym (first-more None (take i answers) (get_or answers i None)) ∙ ap (first_after None) (sym (take_more answers i None c.loop-refused-test.true))
