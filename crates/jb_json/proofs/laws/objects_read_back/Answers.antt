use Rattle.jb_json.proofs.ReadingBack.{objects-read-back}
use Rattle.jb_json.proofs.laws.objects_read_back.Goals as goal

pub returns : goal.returns
returns c = objects-read-back
