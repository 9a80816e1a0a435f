use Rattle.std.proofs.Common.{Ok, Err, ap, refl}
use Rattle.jb_commands.proofs.files.searching.dump_searched.Goals as goal

pub returns-in-Ok : goal.returns-in-Ok
returns-in-Ok g c = record {
  dumps = (
    c.find_lost.new.disk,
    Ok c.in-Ok.lost,
    record { passed = c.in-Ok.ensures.passed; tells = c.in-Ok.ensures.tells },
    (c.dump_disk.result, c.dump_disk.ensures.dumps, c.unless_lost.ensures),
  );
}

pub returns : goal.returns
returns g c = record {
  dumps = (
    c.find_lost.new.disk,
    Err c.in-Err.fault,
    record { passed = c.in-Err.ensures.passed; tells = c.in-Err.ensures.tells },
    (ap Err c.of_peek.ensures.value, refl),
  );
}
