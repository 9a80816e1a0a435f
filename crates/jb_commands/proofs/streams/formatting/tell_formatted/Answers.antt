use Rattle.jb_commands.proofs.streams.formatting.tell_formatted.Goals as goal

pub returns : goal.returns
returns g c = rw c.from.ensures at c.tell_fields.ensures
