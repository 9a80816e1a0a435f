use Rattle.jb_commands.proofs.streams.changing.widen_on.Goals as goal

pub returns : goal.returns
returns g c =
    let done = c.widen-answer.ensures in
    record {
      widens = record {
        answer = c.widen-answer.result;
        kept = done.kept;
        done = done.widens;
        crash = done.crash;
        again = done.again;
        durable = done.durable;
        told = c.widening_end.ensures;
      };
    }
