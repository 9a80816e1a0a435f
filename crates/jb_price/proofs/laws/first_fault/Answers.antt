use Rattle.jb_price.proofs.SpelledCert.{first_faults}
use Rattle.jb_price.proofs.laws.first_fault.Goals as goal

pub returns : goal.returns
returns c = first_faults
