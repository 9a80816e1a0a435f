use Rattle.std.proofs.Common.{◌≡◌, ◌+◌, ◌-◌, ap, ◌∙◌, arith}
use Rattle.std.specs.Int.{div_ceil}
use Rattle.jb_cost.proofs.WorstCosts.{most-fits, most-least}
use Rattle.jb_cost.proofs.credits.most_credits.Goals as goal

pub returns-clause-within : goal.returns-clause-within
returns-clause-within c =
    let room = c.from-room.result - 1 in
    let descriptors : c.div_ceil-descriptors.result ≡ div_ceil room (c.args.geometry.t + 1) = c.div_ceil-descriptors.ensures ∙ ap (λ t. div_ceil room (t + 1)) c.from.ensures in
    rw descriptors (omega (arith, most-fits c.args.geometry room))

pub returns-clause-most : goal.returns-clause-most
returns-clause-most c credits fits =
    let room = c.from-room.result - 1 in
    let descriptors : c.div_ceil-descriptors.result ≡ div_ceil room (c.args.geometry.t + 1) = c.div_ceil-descriptors.ensures ∙ ap (λ t. div_ceil room (t + 1)) c.from.ensures in
    rw descriptors (most-least c.args.geometry room credits (omega arith))
