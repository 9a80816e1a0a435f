use Rattle.std.proofs.Common.{refl}
use Rattle.jb_tool.proofs.load_command.load_queue.Goals as goal

pub returns-in-Ok : goal.returns-in-Ok
returns-in-Ok g c = record {
  loads = record { loaded = c.in-Ok.loaded; answers = c.in-Ok.ensures.answers; told = refl };
}
