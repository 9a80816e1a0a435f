use Rattle.std.proofs.Common.{subst}
use Rattle.jb_core.specs.Line.{MachineLine, IsPushed}
use Rattle.jb_core.specs.Stops.{line_of_stops}
use Rattle.jb_core.proofs.LineMoves.{changed, push-line}
use Rattle.jb_core.proofs.stops.Stops.push.Goals as goal

pub returns : goal.returns
returns c =
    let s = c.self.inside in
    subst (λ (l : MachineLine). IsPushed c.args.handle c.args.credits l (line_of_stops (changed s c.push_reserved.new.self c.push_reserved-2.new.self s.ends s.taken_end))) c.self.view_is
    (push-line s c.self.invariant c.push_reserved.new.self c.push_reserved-2.new.self c.args.handle c.args.credits c.push_reserved.ensures.items c.push_reserved-2.ensures.items)
