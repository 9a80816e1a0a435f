use Rattle.jb_commands.proofs.files.recovered.foresee_image.Goals as goal

pub returns : goal.returns
returns g c = record { foresees = (c.foresee_watched-answer.result, c.foresee_watched-answer.ensures.foretells, rw c.inner.ensures at c.foreseen_end.ensures) }
