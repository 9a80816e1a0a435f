use Rattle.jb_commands.proofs.streams.changing.renumber_on.Goals as goal

pub returns : goal.returns
returns g c =
    let done = c.renumber-answer.ensures in
    record {
      renumbers = record {
        answer = c.renumber-answer.result;
        kept = done.kept;
        done = done.renumbers;
        crash = done.crash;
        again = done.again;
        durable = done.durable;
        told = c.renumbering_end.ensures;
      };
    }
