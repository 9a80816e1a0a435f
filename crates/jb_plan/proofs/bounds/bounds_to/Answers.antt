use Rattle.std.proofs.Common.{◌≡◌, ◌<◌, slice_index, [], ◌∷◌, ◌++◌, reverse, ap, ◌∙◌, refl, rules, arith}
use Rattle.std.proofs.lemmas.List.{reverse-append}
use Rattle.jb_plan.proofs.bounds.bounds_to.Goals as goal

pub loop-bound-preserved : goal.loop-bound-preserved
loop-bound-preserved c =
    let before = slice_index c.args.froms.now c.loop-bound.bound in
    let positive : 0 < c.loop-bound.bound = search rules in
    let back : before < c.loop-bound.bound = c.requires.backwards c.loop-bound.bound positive c.loop-bound.invariant.within in
    let grown : c.push-in-loop-bound.new.self.items ≡ c.loop-bound.bounds.items ++ (before ∷ []) = c.in_ok-push-2.ensures.items in
    let walk = c.loop-bound.invariant.walk in
    record {
      within = omega arith;
      walk = (c.loop-bound.bound ∷ walk.0, ap reverse grown ∙ reverse-append c.loop-bound.bounds.items (before ∷ []) ∙ ap (λ l. before ∷ l) walk.1, (back, walk.2), (refl, walk.3));
    }
