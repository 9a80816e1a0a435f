use Rattle.std.proofs.Common.{◌+◌, ◌-◌, ◌*◌, arith}
use Rattle.jb_disk.proofs.Sectors.{put_mid-sector}
use Rattle.jb_disk.proofs.sector.copy_sector.Goals as goal

pub returns : goal.returns
returns c =
    put_mid-sector c.args.k (512 * c.args.k + 512 - 512 * c.args.k) c.args.to.now c.args.from.now c.copy_from_slice.new.self (omega arith)
    c.copy_from_slice.ensures.after
