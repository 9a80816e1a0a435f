use Rattle.jb_args.proofs.HintForms.{unsaid}
use Rattle.jb_tool.proofs.loading.telling.put_told.Goals as goal

pub returns-in-Text-default : goal.returns-in-Text-default
returns-in-Text-default g c = (unsaid, rw c.in-Text-default.is-0 c.put_part.ensures)

pub returns-in-Json-None : goal.returns-in-Json-None
returns-in-Json-None g c = (unsaid, rw (c.in-Json-None.is-0, c.in-Json-None.is-1) c.put_part-in-Json-None.ensures)

pub returns-in-Json-Some : goal.returns-in-Json-Some
returns-in-Json-Some g c = rw (c.in-Json-Some.is-0, c.in-Json-Some.is-1) c.put_advised.ensures
