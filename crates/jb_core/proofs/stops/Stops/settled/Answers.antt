use Rattle.std.proofs.Common.{length, take, sym, ap, ◌∙◌, length-take-le}
use Rattle.jb_core.specs.Line.{MachineLine}
use Rattle.jb_cost.proofs.ListPieces.{length-pieces}
use Rattle.jb_core.proofs.stops.Stops.settled.Goals as goal

pub returns : goal.returns
returns c =
    sym (length-take-le c.self.inside.settled c.self.inside.ends.items c.self.invariant.counted)
    ∙ sym (length-pieces 0 (take c.self.inside.settled c.self.inside.ends.items) c.self.inside.handles.items)
    ∙ ap (λ (l : MachineLine). length l.settled) c.self.view_is
