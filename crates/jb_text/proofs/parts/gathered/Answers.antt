use Rattle.std.proofs.Common.{ap, ◌≡◌, ◌++◌, ◌∙◌, append-nil, arith, map, refl, sym}
use Rattle.jb_text.specs.TextParts.{spelled}
use Rattle.jb_text.proofs.PartByPart.{spelled_none}
use Rattle.jb_text.proofs.parts.gathered.Goals as goal

pub returns-clause-fits : goal.returns-clause-fits
returns-clause-fits c =
    let text = c.loop-part.text.items in
    let none = spelled_none (λ part. part.now) c.args.parts.now c.loop-part.part-index (omega (arith, c.loop-part-test.false)) in
    let whole : text ≡ spelled (map (λ part. part.now) c.args.parts.now) =
    sym (append-nil text) ∙ ap (λ rest. text ++ rest) none ∙ c.loop-part.invariant.0 in
    ((λ _. rw whole at c.loop-part.invariant.1), (λ _. refl))
