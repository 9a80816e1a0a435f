use Rattle.std.proofs.Common.{refl}
use Rattle.jb_crc.specs.Crc.{times_x_to}
use Rattle.jb_crc.specs.Table.{remainders}
use Rattle.jb_crc.proofs.tables.table_8.Goals as goal

pub returns : goal.returns
unfolding times_x_to remainders
returns c = refl
