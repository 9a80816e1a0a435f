use Rattle.std.proofs.Common.{◌≡◌, drop}
use Rattle.jb_text.specs.Parts.{number_from}
use Rattle.jb_text.proofs.text.digits_value.Given as goal

abbrev pub invariant-loop-digit : goal.invariant-loop-digit
invariant-loop-digit l = number_from l.value (drop l.digit-index l.digits) ≡ number_from 0 l.digits
