use Rattle.jb_commands.proofs.report.Report.put.Goals as goal

pub returns-in-Foreseen : goal.returns-in-Foreseen
returns-in-Foreseen g c = rw c.in-Foreseen.is c.tell_foreseen.ensures

pub returns-in-Recovered : goal.returns-in-Recovered
returns-in-Recovered g c = rw c.in-Recovered.is c.tell_recovered.ensures
