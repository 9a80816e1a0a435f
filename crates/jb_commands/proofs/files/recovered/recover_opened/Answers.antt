use Rattle.std.proofs.Common.{refl, Ok, Err}
use Rattle.jb_commands.proofs.files.recovered.recover_opened.Goals as goal

pub returns-in-Err : goal.returns-in-Err
returns-in-Err g c = record {
  recovers = (c.judge_beside.new.disk, Err c.in-Err.fault, rw (c.is_beside-beside.ensures, c.is_within.ensures, c.use_of-used.ensures, c.checksums_of-sums.ensures) at c.in-Err.ensures.judges, (refl, refl));
}

pub returns : goal.returns
returns g c = record {
  recovers = (
    c.judge_beside.new.disk,
    Ok tt,
    rw (c.is_beside-beside.ensures, c.is_within.ensures, c.use_of-used.ensures, c.checksums_of-sums.ensures) at c.in-Ok.ensures.judges,
    rw (c.of-watched.ensures, ← c.into_inner.ensures, c.checksums_of-sums.ensures) at c.recover_or_foresee-end.ensures.does,
  );
}
