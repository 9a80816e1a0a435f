use Rattle.jb_commands.proofs.streams.fault_line.put_told.Goals as goal

pub returns-in-None : goal.returns-in-None
returns-in-None g c = record { puts = rw c.in-None.is c.put_json.ensures }

pub returns-in-Some : goal.returns-in-Some
returns-in-Some g c = record { puts = rw c.in-Some.is c.put_json-in-Some.ensures }
