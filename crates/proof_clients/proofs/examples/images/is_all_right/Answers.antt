use Rattle.std.proofs.Common.{◌≡◌, Some, None, sym, ◌∙◌}
use Rattle.std.proofs.lemmas.Bool.{false≢true}
use Rattle.proof_clients.proofs.examples.images.is_all_right.Goals as goal

pub returns-clause-not_own : goal.returns-clause-not_own
returns-clause-not_own c size count found wrong image is right =
    let both : Some wrong ≡ None = sym is ∙ right.own in cc

pub returns-clause-not_copy : goal.returns-clause-not_copy
returns-clause-not_copy c size count found wrong image is right =
    let both : Some wrong ≡ None = sym is ∙ right.copies in cc

pub returns-clause-not_front : goal.returns-clause-not_front
returns-clause-not_front c size count found image some is right = false≢true (sym is ∙ right.front some)
