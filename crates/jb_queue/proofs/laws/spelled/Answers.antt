use Rattle.jb_queue.proofs.SpelledText.{spelled}
use Rattle.jb_queue.proofs.laws.spelled.Goals as goal

pub returns : goal.returns
returns c = spelled
