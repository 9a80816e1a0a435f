use Rattle.std.proofs.Common.{◌≡◌, Some, None, refl, sym, ◌∙◌}
use Rattle.jb_recover.specs.Outcomes.{recovered}
use Rattle.jb_recover.proofs.RecoveredImage.{recovered-is, recovered-dirty, recovers-recovered}
use Rattle.jb_recover.proofs.RecoverCrash.{recovers-same}
use Rattle.proof_clients.proofs.examples.crashes.recovers_as.Goals as goal

pub returns-clause-meets : goal.returns-clause-meets
returns-clause-meets c size count base = recovers-same size count base base refl

pub returns-clause-meets_recovered : goal.returns-clause-meets_recovered
returns-clause-meets_recovered c size count sb ts base has dirty fits =
    recovers-recovered size count sb base has.taken dirty has.not_refused fits (recovered size count base) (recovered-dirty size count sb base has.taken dirty has.not_refused)

pub returns-clause-not_older : goal.returns-clause-not_older
returns-clause-not_older c size count sb older newer base image apart has older_there same =
    let is = recovered-is size count base sb has.blocks has.taken has.not_refused in
    apart (sym (rw (same.image, is.home 5 has.homes, has.found) at older_there))

pub returns-clause-not_revoked : goal.returns-clause-not_revoked
returns-clause-not_revoked c size count sb bytes base image apart has there same =
    let is = recovered-is size count base sb has.blocks has.taken has.not_refused in
    apart (rw (same.image, is.home 5 has.homes, has.found) at there)

pub returns-clause-not_refused : goal.returns-clause-not_refused
returns-clause-not_refused c size count sb ts fault base image has refused same =
    let both : Some fault ≡ None = sym refused ∙ same.refused ∙ has.not_refused in cc
