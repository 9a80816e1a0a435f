use Rattle.jb_queue.proofs.SpelledText.{first_faults}
use Rattle.jb_queue.proofs.laws.first_fault.Goals as goal

pub returns : goal.returns
returns c = first_faults
