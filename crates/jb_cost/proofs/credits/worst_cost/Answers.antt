use Rattle.std.proofs.Common.{sym, ap, ◌∙◌}
use Rattle.jb_cost.specs.Cost.{worst_cost_of}
use Rattle.jb_cost.proofs.WorstCosts.{blocks-copies, worst-bound, worst-reached}
use Rattle.jb_cost.proofs.credits.worst_cost.Goals as goal

pub returns-clause-value : goal.returns-clause-value
returns-clause-value c = c.blocks-2.ensures ∙ blocks-copies c.args.geometry c.from.result ∙ ap (worst_cost_of c.args.geometry) c.from.ensures

pub returns-clause-bound : goal.returns-clause-bound
returns-clause-bound c h within = rw (returns-clause-value c) (worst-bound c.args.geometry h c.args.credits within)

pub returns-clause-reached : goal.returns-clause-reached
returns-clause-reached c h all_used copied = worst-reached c.args.geometry h copied ∙ ap (worst_cost_of c.args.geometry) all_used ∙ sym (returns-clause-value c)
