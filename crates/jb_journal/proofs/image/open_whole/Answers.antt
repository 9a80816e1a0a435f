use Rattle.std.proofs.Common.{subst, sym}
use Rattle.jb_journal.specs.OpenFile.{RefusesImage}
use Rattle.jb_journal.proofs.RecoveredFile.{still-recovered, unread}
use Rattle.jb_journal.proofs.image.open_whole.Goals as goal

pub returns-in-Ok : goal.returns-in-Ok
returns-in-Ok g c =
    let read = c.in-Ok.ensures in
    record { opened = still-recovered c.args.geometry.block_size c.in_ok-disk.disk c.read_home.new.disk c.in_ok-disk.ensures.opened read.kept read.newest read.idle; refused = tt }

pub returns-in-Err-clause-refused : goal.returns-in-Err-clause-refused
returns-in-Err-clause-refused g c =
    subst (RefusesImage g.S.Start c.args.geometry.block_size) (sym c.unread.ensures)
    (unread c.args.geometry.block_size c.in_ok-disk.disk c.read_home.new.disk c.in_ok-disk.ensures.opened c.in-Err.fault c.in-Err.ensures.kept.counted c.failure.result c.failure.ensures)
