use Rattle.tests_desk.proofs.desks.+beside.Given as goal

abbrev pub decreases-beside : goal.decreases-beside
decreases-beside g l = l.count
