use Rattle.std.proofs.Common.{◌≡◌, ◌≤◌, length, take, sum, slice_range, ap, subst, ◌∙◌, arith, length-drop}
use Rattle.jb_core.specs.Line.{MachineLine, IsSettled, count}
use Rattle.jb_core.specs.Stops.{line_of_stops}
use Rattle.jb_core.proofs.LineMoves.{taken_ends, settled_to, groups-there, parts-of, settled-kept, settled-line, settled-credits}
use Rattle.jb_core.proofs.stops.Stops.settle.Goals as goal

pub end_after-end-requires : goal.end_after-end-requires
end_after-end-requires c =
    let there : c.args.n ≤ length (taken_ends c.self.inside) = groups-there c.self.inside c.args.self.now c.args.n c.self.view_is c.requires.there in
    rw c.deref.ensures.value there

pub overflow_add-self : goal.overflow_add-self
overflow_add-self c =
    let there : c.args.n ≤ length (taken_ends c.self.inside) = groups-there c.self.inside c.args.self.now c.args.n c.self.view_is c.requires.there in
    omega (arith, there, length-drop c.self.inside.settled c.self.inside.ends.items, c.self.invariant.counted, c.deref.ensures.len)

pub invariant_of-self : goal.invariant_of-self
invariant_of-self c =
    settled-kept c.self.inside c.self.invariant c.args.n c.end_after-end.result (groups-there c.self.inside c.args.self.now c.args.n c.self.view_is c.requires.there)
    (parts-of c.self.inside c.self.invariant c.args.n c.end_after-end.result c.deref.result.now c.deref.ensures.value c.end_after-end.ensures)

pub returns-clause-settled : goal.returns-clause-settled
returns-clause-settled c =
    subst (λ (l : MachineLine). IsSettled c.args.n l (line_of_stops (settled_to c.self.inside c.args.n c.end_after-end.result))) c.self.view_is
    (settled-line c.self.inside c.self.invariant c.args.n c.end_after-end.result (groups-there c.self.inside c.args.self.now c.args.n c.self.view_is c.requires.there)
    (parts-of c.self.inside c.self.invariant c.args.n c.end_after-end.result c.deref.result.now c.deref.ensures.value c.end_after-end.ensures))

pub returns-clause-credits : goal.returns-clause-credits
returns-clause-credits c =
    subst (λ (l : MachineLine). c.sum_between-credits.result ≡ sum (take (count (take c.args.n l.taken)) l.credits)) c.self.view_is
    (c.sum_between-credits.ensures
    ∙ ap (λ xs. sum (slice_range xs c.self.inside.settled_end c.end_after-end.result)) c.deref-2.ensures.value
    ∙ ap sum (settled-credits c.self.inside c.self.invariant c.args.n c.end_after-end.result (groups-there c.self.inside c.args.self.now c.args.n c.self.view_is c.requires.there)
    (parts-of c.self.inside c.self.invariant c.args.n c.end_after-end.result c.deref.result.now c.deref.ensures.value c.end_after-end.ensures)))
