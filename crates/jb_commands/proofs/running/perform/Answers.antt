use Rattle.std.proofs.Common.{refl}
use Rattle.jb_commands.proofs.running.perform.Goals as goal

pub returns-in-Cost-clause-ends : goal.returns-in-Cost-clause-ends
returns-in-Cost-clause-ends g c = rw c.in-Cost.is (c.perform_cost.result, c.perform_cost.ensures.ends, c.said.ensures.image, c.said.ensures.end)

pub returns-in-Plan-clause-ends : goal.returns-in-Plan-clause-ends
returns-in-Plan-clause-ends g c = rw c.in-Plan.is (c.perform_plan.result, c.perform_plan.ensures.ends, c.said-in-Plan.ensures.image, c.said-in-Plan.ensures.end)

pub returns-in-Check-clause-ends : goal.returns-in-Check-clause-ends
returns-in-Check-clause-ends g c = rw c.in-Check.is (c.perform_check.result, c.perform_check.ensures.ends, c.said-in-Check.ensures.image, c.said-in-Check.ensures.end)

pub returns-in-Dump-clause-ends : goal.returns-in-Dump-clause-ends
returns-in-Dump-clause-ends g c = rw c.in-Dump.is ((c.dump_in.result, c.dump_in.ensures.ends, c.status.ensures.image, c.status.ensures.end), refl)

pub returns-in-Format-clause-ends : goal.returns-in-Format-clause-ends
returns-in-Format-clause-ends g c = rw c.in-Format.is (c.format_file.ensures.ends, refl)

pub returns-in-Cat-clause-ends : goal.returns-in-Cat-clause-ends
returns-in-Cat-clause-ends g c = rw c.in-Cat.is (c.cat_file.ensures.ends, refl)

pub returns-in-Recover-clause-ends : goal.returns-in-Recover-clause-ends
returns-in-Recover-clause-ends g c = rw c.in-Recover.is (c.recover_file.ensures.ends, refl)

pub returns-in-Renumber-clause-ends : goal.returns-in-Renumber-clause-ends
returns-in-Renumber-clause-ends g c = rw c.in-Renumber.is (c.renumber_file.ensures.ends, refl)

pub returns-in-Widen-clause-ends : goal.returns-in-Widen-clause-ends
returns-in-Widen-clause-ends g c = rw c.in-Widen.is (c.widen_file.ensures.ends, refl)

-- ---- what is not read stays

pub returns-in-Cost-clause-unread : goal.returns-in-Cost-clause-unread
returns-in-Cost-clause-unread g c = rw c.in-Cost.is c.perform_cost.ensures.unread

pub returns-in-Plan-clause-unread : goal.returns-in-Plan-clause-unread
returns-in-Plan-clause-unread g c = rw c.in-Plan.is c.perform_plan.ensures.unread

pub returns-in-Check-clause-unread : goal.returns-in-Check-clause-unread
returns-in-Check-clause-unread g c = λ _. refl

pub returns-in-Dump-clause-unread : goal.returns-in-Dump-clause-unread
returns-in-Dump-clause-unread g c = rw c.in-Dump.is c.dump_in.ensures.unread

pub returns-in-Format-clause-unread : goal.returns-in-Format-clause-unread
returns-in-Format-clause-unread g c = λ _. refl

pub returns-in-Cat-clause-unread : goal.returns-in-Cat-clause-unread
returns-in-Cat-clause-unread g c = rw c.in-Cat.is c.cat_file.ensures.unread

pub returns-in-Recover-clause-unread : goal.returns-in-Recover-clause-unread
returns-in-Recover-clause-unread g c = rw c.in-Recover.is c.recover_file.ensures.unread

pub returns-in-Renumber-clause-unread : goal.returns-in-Renumber-clause-unread
returns-in-Renumber-clause-unread g c = rw c.in-Renumber.is c.renumber_file.ensures.unread

pub returns-in-Widen-clause-unread : goal.returns-in-Widen-clause-unread
returns-in-Widen-clause-unread g c = rw c.in-Widen.is c.widen_file.ensures.unread
