use Rattle.std.proofs.Common.{ap, ◌∙◌}
use Rattle.jb_core.specs.Line.{MachineLine}
use Rattle.jb_core.proofs.LineMoves.{cut-kept, cut-settled}
use Rattle.jb_core.proofs.stops.Stops.drop_rest.Goals as goal

pub invariant_of-self : goal.invariant_of-self
invariant_of-self c = cut-kept c.self.inside c.self.invariant _ c.truncate-3.new.self _ c.truncate-2.ensures.items c.truncate.ensures.items c.truncate-3.ensures.items

pub returns-clause-settled : goal.returns-clause-settled
returns-clause-settled c =
    cut-settled c.self.inside c.self.invariant c.truncate-2.new.self c.truncate-3.new.self c.truncate.new.self c.truncate-2.ensures.items c.truncate.ensures.items
    ∙ ap (λ (l : MachineLine). l.settled) c.self.view_is
