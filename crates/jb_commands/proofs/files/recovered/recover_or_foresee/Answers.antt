use Rattle.jb_commands.proofs.files.recovered.recover_or_foresee.Goals as goal

pub returns-then-dry_run : goal.returns-then-dry_run
returns-then-dry_run g c = record { does = rw c.if-dry_run.true c.foresee_image.ensures.foresees }

pub returns-else-dry_run : goal.returns-else-dry_run
returns-else-dry_run g c = record { does = rw c.if-dry_run.false c.recover_image.ensures.recovers }
