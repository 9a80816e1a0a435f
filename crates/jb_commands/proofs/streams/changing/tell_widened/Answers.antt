use Rattle.jb_commands.proofs.streams.changing.tell_widened.Goals as goal

pub returns : goal.returns
returns g c = rw c.from.ensures at c.tell_fields.ensures
