use Rattle.std.proofs.Common.{refl}
use Rattle.jb_args.proofs.second.failure_parts.Goals as goal

pub returns : goal.returns
returns c = (
  record { text = c.failure_text-system.result.now; remedy = c.advice-remedy.result.now },
  rw (c.call_name-call.ensures, c.place_text-place.ensures) refl,
  rw (c.call_name-call.ensures, c.place_text-place.ensures) refl,
)
