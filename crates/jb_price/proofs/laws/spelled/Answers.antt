use Rattle.jb_price.proofs.SpelledCert.{spelled}
use Rattle.jb_price.proofs.laws.spelled.Goals as goal

pub returns : goal.returns
returns c = spelled
