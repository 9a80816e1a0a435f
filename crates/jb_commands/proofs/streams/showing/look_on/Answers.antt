use Rattle.jb_commands.proofs.CatBlocks.{looks-refused, looks-well}
use Rattle.jb_commands.proofs.streams.showing.look_on.Goals as goal

pub returns-in-Ok : goal.returns-in-Ok
returns-in-Ok g c = record {
  looks = looks-well g.D.Disk c.args.sums c.args.homes c.args.home c.args.disk.now c.peek_by.new.disk c.in-Ok.ensures.newest c.in-Ok.ensures.idle c.in-Ok.ensures.unsynced c.in-Ok.ensures.kept (λ honest. (c.in-Ok.ensures.peeks honest).0);
}

pub returns-in-Err : goal.returns-in-Err
returns-in-Err g c =
    let disk = c.args.disk.now in
    record {
      looks = rw c.of_peek.ensures.value (looks-refused g.D.Disk c.args.sums c.args.homes c.args.home disk c.peek_by.new.disk c.in-Err.ensures.newest c.in-Err.ensures.idle c.in-Err.ensures.unsynced c.in-Err.fault c.in-Err.ensures.kept
          (λ honest. c.in-Err.ensures.peeks honest));
    }
