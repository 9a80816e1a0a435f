-- a revoke takes a free word
use Rattle.jb_handle.proofs.changes.Changes.revoke.Goals as goal

pub returns-clause-ok : goal.returns-clause-ok
returns-clause-ok c = c.take.ensures.ok

pub returns-clause-granted : goal.returns-clause-granted
returns-clause-granted c = c.take.ensures.granted

pub returns-clause-err : goal.returns-clause-err
returns-clause-err c = c.take.ensures.err

pub returns-clause-refused : goal.returns-clause-refused
returns-clause-refused c = c.take.ensures.refused

pub returns-clause-memory : goal.returns-clause-memory
returns-clause-memory c = c.take.ensures.memory
