use Rattle.jb_commands.proofs.streams.foreseeing.tell_foreseen.Goals as goal

pub returns : goal.returns
returns g c = rw c.as_slice.ensures.value at c.tell_counts.ensures
