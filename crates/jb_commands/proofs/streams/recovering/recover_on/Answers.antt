use Rattle.jb_commands.proofs.streams.recovering.recover_on.Goals as goal

pub returns : goal.returns
returns g c = record {
  recovers = record {
    answer = c.recover_by-answer.result;
    recovers = c.recover_by-answer.ensures.recovers;
    told = c.recovery_end.ensures;
  };
}
