use Rattle.std.proofs.Common.{rules, refl, ap}
use Rattle.jb_commands.specs.Judge.{ended_so, judged_alone}
use Rattle.jb_commands.proofs.Judgement.{judged-failed, judged-read, judged-still}
use Rattle.jb_commands.proofs.streams.judging.judge_alone.Goals as goal
