use Rattle.std.proofs.Common.{◌≡◌, Ok, Err, sym, ◌∙◌}
use Rattle.jb_ext.specs.declared.fault.FindFault.TheVariants.{Own}
use Rattle.proof_clients.proofs.examples.images.finds_journal.Goals as goal

pub returns-clause-meets : goal.returns-clause-meets
returns-clause-meets g c sums own old new looked is = record { looked = looked; found = λ honest. is }

pub returns-clause-not_other : goal.returns-clause-not_other
returns-clause-not_other g c sums own other old new apart honest is finds =
    let both : Ok own ≡ Ok other = sym is ∙ finds.found honest in
    apart (cc)

pub returns-clause-not_where_none : goal.returns-clause-not_where_none
returns-clause-not_where_none g c sums fault other old new honest is finds =
    let both : Err fault ≡ Ok other = sym is ∙ finds.found honest in cc

pub returns-clause-not_refused : goal.returns-clause-not_refused
returns-clause-not_refused g c sums own fault old new honest is finds =
    let both : Ok own ≡ Err (Own fault) = sym is ∙ finds.found honest in cc

pub returns-clause-not_changed : goal.returns-clause-not_changed
returns-clause-not_changed g c sums answer old new honest changed finds = changed (finds.looked.same honest)
