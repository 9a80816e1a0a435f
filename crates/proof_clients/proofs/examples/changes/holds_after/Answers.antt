use Rattle.std.proofs.Common.{inl, refl, sym, subst, ◌∙◌}
use Rattle.jb_log.specs.Follows.{StandsBy}
use Rattle.proof_clients.proofs.ExampleWords.{own-copy, other-copy, own-free}
use Rattle.proof_clients.proofs.examples.changes.holds_after.Goals as goal

pub returns-clause-meets : goal.returns-clause-meets
returns-clause-meets c old new = (new, subst (λ w. StandsBy w old new) (sym (own-copy new)) refl, (new, refl, refl))

pub returns-clause-meets_filled : goal.returns-clause-meets_filled
returns-clause-meets_filled c old new = (old, subst (λ w. StandsBy w old old) (sym own-free) tt, (new, refl, refl))

pub returns-clause-meets_torn : goal.returns-clause-meets_torn
returns-clause-meets_torn c old new =
    (old, subst (λ w. StandsBy w old old) (sym own-free) tt, (old, record { size = refl; sectors = λ k. inl refl }, refl))

pub returns-clause-not_lost : goal.returns-clause-not_lost
returns-clause-not_lost c old new apart holds =
    apart (holds.2 ∙ subst (λ w. StandsBy w old holds.0) (own-copy new) holds.1)

pub returns-clause-not_unfilled : goal.returns-clause-not_unfilled
returns-clause-not_unfilled c old new apart holds = apart (holds.2.2 ∙ holds.2.1)

pub returns-clause-not_other_home : goal.returns-clause-not_other_home
returns-clause-not_other_home c old new apart holds =
    apart (sym (holds.2 ∙ subst (λ w. StandsBy w old holds.0) (other-copy new) holds.1))

pub returns-clause-not_older : goal.returns-clause-not_older
returns-clause-not_older c old new newer apart holds =
    apart (holds.2.2 ∙ subst (λ w. StandsBy w holds.0 holds.2.0) (own-copy newer) holds.2.1)
