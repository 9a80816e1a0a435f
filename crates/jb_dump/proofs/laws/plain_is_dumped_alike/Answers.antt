use Rattle.jb_dump.proofs.DumpedAlike.{dumped_alike}
use Rattle.jb_dump.proofs.laws.plain_is_dumped_alike.Goals as goal

pub returns : goal.returns
returns c = dumped_alike
