use Rattle.std.proofs.Common.{◌≡◌, List, [], ◌∷◌, ◌++◌, map, length, refl, sym, ap, ◌∙◌, arith}
use Rattle.jb_handle.specs.declared.stopped.Stopped.{Stopped}
use Rattle.jb_deck.specs.Changes.{fills, settles}
use Rattle.proof_clients.specs.Examples.{wrote}
use Rattle.proof_clients.specs.Lives.{nothing}
use Rattle.proof_clients.proofs.ExampleLives.{first-part}
use Rattle.proof_clients.proofs.examples.lives.left_by_life.Goals as goal

pub returns-clause-meets : goal.returns-clause-meets
returns-clause-meets c own count = nothing

pub returns-clause-not_lost : goal.returns-clause-not_lost
returns-clause-not_lost c size count base image left is =
    let whole = left.all refl in
    let both : map settles whole.batch.batch.handles ++ [] ≡ settles (wrote [] 0 (1 ∷ [])) ∷ [] = sym whole.all ∙ is in
    let long : 2 ≡ 1 = ap (λ (hs : List Stopped). length (map settles hs ++ [])) (sym whole.is.same) ∙ ap length both in
    omega (arith, long)

pub returns-clause-not_second_alone : goal.returns-clause-not_second_alone
returns-clause-not_second_alone c size count base image committed left is =
    omega (arith, first-part left.has.own count left.groups left.changes (settles (wrote [] 1 (2 ∷ []))) left.part is)

pub returns-clause-not_another : goal.returns-clause-not_another
returns-clause-not_another c size count base image committed left is =
    omega (arith, first-part left.has.own count left.groups left.changes (settles (wrote [] 7 (1 ∷ []))) left.part is)

pub returns-clause-not_filled : goal.returns-clause-not_filled
returns-clause-not_filled c size count base image committed left is =
    omega (arith, first-part left.has.own count left.groups left.changes (fills 1 []) left.part is)
