use Rattle.std.proofs.Common.{refl}
use Rattle.jb_args.proofs.second.text_parts.Goals as goal

pub returns : goal.returns
returns c = (refl, refl)
