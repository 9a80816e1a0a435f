use Rattle.jb_commands.proofs.streams.recovering.tell_counts.Goals as goal

pub returns-then-listed : goal.returns-then-listed
returns-then-listed g c =
    rw c.if-listed.true (rw (c.from.ensures, c.from-2.ensures, c.from-3.ensures, c.is_backup.ensures) at c.tell_fields.ensures)

pub returns : goal.returns
returns g c =
    rw c.if-listed.false (rw (c.from.ensures, c.from-2.ensures, c.from-3.ensures, c.is_backup.ensures) at c.tell_fields-2.ensures)
