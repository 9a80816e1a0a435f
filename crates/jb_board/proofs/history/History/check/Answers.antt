use Rattle.jb_board.proofs.history.History.check.Goals as goal

pub tell-requires-clause-other : goal.tell-requires-clause-other
tell-requires-clause-other g c = (c.prefix.invariant.0, c.prefix.invariant.1)
