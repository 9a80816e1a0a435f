use Rattle.jb_commands.proofs.files.placed.open_placed.Goals as goal

pub returns-in-None-Some-clause-shut : goal.returns-in-None-Some-clause-shut
returns-in-None-Some-clause-shut g c = rw (c.in-None-Some.is-0, c.in-None-Some.is-1) c.open_compared.ensures.shut

pub returns-in-None-None-clause-shut : goal.returns-in-None-None-clause-shut
returns-in-None-None-clause-shut g c = rw (c.in-None-None.is-0, c.in-None-None.is-1) (c.named_front.ensures.shut c.args.sums c.open_by_front.ensures.shut)
