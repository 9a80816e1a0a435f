use Rattle.std.proofs.Common.{◌≡◌, ◌==◌, true, false, Some, None, refl, sym, ap, ◌∙◌, arith}
use Rattle.std.proofs.lemmas.Bool.Decides.{nat_tests}
use Rattle.jb_deck.specs.Open.{open_refusal, open_refusal_with}
use Rattle.jb_deck.specs.declared.fault.OpenFault.TheVariants.{NeedsRecovery, NumbersSpent}
use Rattle.proof_clients.proofs.ExampleRecovered.{start-zero}
use Rattle.proof_clients.proofs.examples.recovered.opens.Goals as goal

pub returns-clause-meets : goal.returns-clause-meets
returns-clause-meets c size count sb image is less =
    let left : (sb.sequence == 4294967295) ≡ false = grind (arith, nat_tests, less) in
    ap open_refusal_with is.taken ∙ rw (start-zero size count sb image is, left) refl

pub returns-clause-not_log : goal.returns-clause-not_log
returns-clause-not_log c size count sb image taken start opens =
    let dirty : (sb.start == 0) ≡ false = grind (arith, nat_tests, start) in
    let refused : open_refusal size count image ≡ Some NeedsRecovery = ap open_refusal_with taken ∙ rw dirty refl in
    let both : Some NeedsRecovery ≡ None = sym refused ∙ opens in cc

pub returns-clause-not_spent : goal.returns-clause-not_spent
returns-clause-not_spent c size count sb image is spent opens =
    let all : (sb.sequence == 4294967295) ≡ true = grind (arith, nat_tests, spent) in
    let refused : open_refusal size count image ≡ Some NumbersSpent = ap open_refusal_with is.taken ∙ rw (start-zero size count sb image is, all) refl in
    let both : Some NumbersSpent ≡ None = sym refused ∙ opens in cc

pub returns-clause-not_refused : goal.returns-clause-not_refused
returns-clause-not_refused c size count fault image refused opens =
    let same : Some _ ≡ None = sym (ap open_refusal_with refused) ∙ opens in cc
