use Rattle.std.proofs.Common.{rules, ◌≡◌, ◌+◌, ◌++◌, map, sym, ap, ◌∙◌, subst, length, drop, arith}
use Rattle.std.proofs.lemmas.List.{length-drop, take_rest}
use Rattle.jb_cost.specs.Cut.{IsCut}
use Rattle.jb_core.specs.Line.{MachineLine, IsTaken}
use Rattle.jb_core.specs.Stops.{line_of_stops}
use Rattle.jb_core.proofs.LineMoves.{changed, rises-below, cut-rises, take-kept, take-line}
use Rattle.jb_core.proofs.stops.Stops.take.Goals as goal

pub push_ends-requires : goal.push_ends-requires
push_ends-requires c = rw (take_rest c.args.bounds.now 1) (λ k d there.
    let cut : IsCut (length (line_of_stops c.self.inside).queue) c.args.bounds.now = subst (λ (l : MachineLine). IsCut (length l.queue) c.args.bounds.now) (sym c.self.view_is) c.requires.cut in
    let below = rises-below (length (line_of_stops c.self.inside).queue) 0 (drop 1 c.args.bounds.now) (cut-rises _ c.args.bounds.now cut) k d there in
    let left = length-drop c.self.inside.taken_end c.self.inside.handles.items in
    let inside = c.self.invariant.inside in
    omega arith)

pub invariant_of-self-2 : goal.invariant_of-self-2
invariant_of-self-2 c =
    let end : c.len-end.result ≡ length c.self.inside.handles.items = search rules in
    take-kept c.self.inside c.self.invariant c.args.bounds.now
    (subst (λ (l : MachineLine). IsCut (length l.queue) c.args.bounds.now) (sym c.self.view_is) c.requires.cut)
    (ap (λ (l : MachineLine). l.taken) c.self.view_is ∙ c.requires.none) c.push_ends.new.ends c.len-end.result
    (c.in_ok-push_ends.ensures.ok ∙ ap (λ es. c.self.inside.ends.items ++ map (λ end. c.self.inside.taken_end + end) es) (take_rest c.args.bounds.now 1)) end

pub returns-clause-ok : goal.returns-clause-ok
returns-clause-ok c =
    let end : c.len-end.result ≡ length c.self.inside.handles.items = search rules in
    subst (λ (l : MachineLine). IsTaken c.args.bounds.now l (line_of_stops (changed c.self.inside c.self.inside.handles c.self.inside.granted c.push_ends.new.ends c.len-end.result))) c.self.view_is
    (take-line c.self.inside c.self.invariant c.args.bounds.now
    (subst (λ (l : MachineLine). IsCut (length l.queue) c.args.bounds.now) (sym c.self.view_is) c.requires.cut)
    (ap (λ (l : MachineLine). l.taken) c.self.view_is ∙ c.requires.none) c.push_ends.new.ends c.len-end.result
    (c.in_ok-push_ends.ensures.ok ∙ ap (λ es. c.self.inside.ends.items ++ map (λ end. c.self.inside.taken_end + end) es) (take_rest c.args.bounds.now 1)) end)
