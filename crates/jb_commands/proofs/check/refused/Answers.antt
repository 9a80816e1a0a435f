use Rattle.jb_commands.proofs.check.refused.Goals as goal

pub returns-in-OpeningPrice : goal.returns-in-OpeningPrice
returns-in-OpeningPrice c = record { said = rw c.in-OpeningPrice.is c.refused_whole.ensures.said }
