use Rattle.jb_tool.proofs.WordRefusals.{refused-asks}
use Rattle.jb_tool.proofs.command_line.run.Goals as goal

pub returns-in-Err-clause-refused : goal.returns-in-Err-clause-refused
returns-in-Err-clause-refused g c = λ _ _. (
  c.in-Err.error,
  c.in-Err.ensures.refused,
  record { memory = c.tell_refusal.ensures.memory; shown = c.tell_refusal.ensures.shown; mistake = c.tell_refusal.ensures.mistake },
)

pub returns-in-Err-clause-asked : goal.returns-in-Err-clause-asked
returns-in-Err-clause-asked g c = λ _. refused-asks _ _ _ _ c.in-Err.error c.in-Err.ensures.refused c.tell_refusal.ensures.memory
