use Rattle.jb_book.proofs.RegisterCalls.{every_run}
use Rattle.jb_book.proofs.laws.every_run.Goals as goal

pub returns : goal.returns
returns c = every_run
