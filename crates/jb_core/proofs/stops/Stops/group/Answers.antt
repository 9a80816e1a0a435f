use Rattle.std.proofs.Common.{rules, ◌≡◌, ◌++◌, length, slice_get, slice_range, get_or, Some, sym, ap, subst, ◌∙◌, arith}
use Rattle.std.proofs.lemmas.List.{get_or_default}
use Rattle.jb_cost.specs.Cut.{RisesTo}
use Rattle.jb_core.specs.Line.{MachineLine}
use Rattle.jb_core.specs.SplitEnds.{IsParted}
use Rattle.jb_core.proofs.LineMoves.{no-group, group-inside, group-is}
use Rattle.jb_core.proofs.stops.Stops.group.Goals as goal

pub returns-then-i-len : goal.returns-then-i-len
returns-then-i-len c =
    let len : c.len.result ≡ length c.self.inside.ends.items = search rules in
    sym (ap (λ (l : MachineLine). slice_get (l.settled ++ l.taken) c.args.i) (sym c.self.view_is) ∙ no-group c.self.inside c.self.invariant c.args.i (omega (arith, len, c.if-i-len.true)))

pub part-requires : goal.part-requires
part-requires c =
    let len : c.len.result ≡ length c.self.inside.ends.items = search rules in
    let end : c.index.result.now ≡ get_or c.self.inside.ends.items c.args.i 0 = c.index.ensures ∙ get_or_default c.self.inside.ends.items c.args.i c.index.result.now 0 (omega (arith, len, c.if-i-len.false)) in
    let inside = group-inside c.self.inside c.self.invariant c.args.i c.end_after-start.result (omega (arith, len, c.if-i-len.false))
    (λ last rises. subst (λ es. IsParted last 0 c.args.i es c.end_after-start.result) c.deref.ensures.value (c.end_after-start.ensures last (subst (λ es. RisesTo last 0 es) (sym c.deref.ensures.value) rises))) in
    let held = ap length c.deref-2.ensures.value in
    (omega (arith, end, inside.0), omega (arith, end, inside.1, held))

pub returns : goal.returns
returns c =
    let len : c.len.result ≡ length c.self.inside.ends.items = search rules in
    let end : c.index.result.now ≡ get_or c.self.inside.ends.items c.args.i 0 = c.index.ensures ∙ get_or_default c.self.inside.ends.items c.args.i c.index.result.now 0 (omega (arith, len, c.if-i-len.false)) in
    let is = group-is c.self.inside c.self.invariant c.args.i c.end_after-start.result (omega (arith, len, c.if-i-len.false))
    (λ last rises. subst (λ es. IsParted last 0 c.args.i es c.end_after-start.result) c.deref.ensures.value (c.end_after-start.ensures last (subst (λ es. RisesTo last 0 es) (sym c.deref.ensures.value) rises))) in
    let part : c.part.result.now ≡ slice_range c.self.inside.handles.items c.end_after-start.result (get_or c.self.inside.ends.items c.args.i 0) =
    c.part.ensures ∙ ap (λ xs. slice_range xs c.end_after-start.result c.index.result.now) c.deref-2.ensures.value ∙ ap (slice_range c.self.inside.handles.items c.end_after-start.result) end in
    ap Some part ∙ sym is ∙ ap (λ (l : MachineLine). slice_get (l.settled ++ l.taken) c.args.i) c.self.view_is
