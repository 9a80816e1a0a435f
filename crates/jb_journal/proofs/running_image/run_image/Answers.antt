use Rattle.jb_journal.proofs.running_image.run_image.Goals as goal

pub returns-in-Ok-run : goal.returns-in-Ok-run
returns-in-Ok-run g c = let done = c.in-Ok-run.ensures in record {
  ran = record {
    opened = c.in-Ok.disk;
    ready = c.in-Ok.ensures.ready;
    ran = done.ran;
    ends = done.ends;
    since = done.since;
    asked = done.asked;
  };
  refused = tt;
}

pub returns-in-Err-run : goal.returns-in-Err-run
returns-in-Err-run g c = let done = c.in-Err-run.ensures in record {
  ran = tt;
  refused = record {
    opened = c.in-Ok.disk;
    ready = c.in-Ok.ensures.ready;
    refused = done.refused;
    asked = done.asked_not_run;
  };
}

pub returns-in-Err : goal.returns-in-Err
returns-in-Err g c = record { ran = tt; refused = c.in-Err.ensures.refused }
