use Rattle.std.proofs.Common.{◌∙◌, refl}
use Rattle.std.proofs.lemmas.Bool.{false≢true}
use Rattle.jb_text.proofs.PartByPart.{partly}
use Rattle.jb_commands.proofs.streams.telling.tell.Goals as goal

pub returns-in-Ok : goal.returns-in-Ok
returns-in-Ok g c = (
  refl,
  rw c.as_slice.ensures.value at c.in-Ok.ensures.puts,
  partly _ _ c.args.answer.now.err.items c.put-ignored.result (rw c.as_slice-in-Ok.ensures.value at c.put-ignored.ensures.puts),
)

pub returns-in-Err : goal.returns-in-Err
returns-in-Err g c = ((λ none. false≢true (c.in-Err.ensures.empty (c.as_slice.ensures.value ∙ none))), rw c.as_slice.ensures.value at c.in-Err.ensures.puts, refl)
