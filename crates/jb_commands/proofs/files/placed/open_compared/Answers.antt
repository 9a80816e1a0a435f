use Rattle.std.proofs.Common.{inr}
use Rattle.jb_commands.proofs.ComparedLists.{few-listed}
use Rattle.jb_commands.proofs.files.placed.open_compared.Goals as goal

pub compare_own-requires : goal.compare_own-requires
compare_own-requires g c = few-listed (g.I.Read.remaining c.args.input.now) c.args.word.now c.in-Ok.image c.in-Ok.homes c.in-Ok.ensures.opened

pub returns-in-Err-compare_own-clause-shut : goal.returns-in-Err-compare_own-clause-shut
returns-in-Err-compare_own-clause-shut g c = inr (c.in-Ok.image, c.in-Ok.homes, c.in-Ok.ensures.opened, c.in-Err-compare_own.ensures.shut)
