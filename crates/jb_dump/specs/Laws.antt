-- What the option for checksums changes.
use Rattle.std.specs.Prelude.{◌≡◌, ℕ, Bool, true, false, List, take}
use Rattle.jb_block.specs.Fields.{AreBytes}
use Rattle.jb_super.specs.Checked.{sum_bits}
use Rattle.jb_dump.specs.Outcome.{outcome}
use Rattle.jb_dump.specs.declared.dump_filter.DumpFilter.{DumpFilter}

-- the filter, where a journal may have checksums or not
abbrev pub allowing : Bool → DumpFilter → DumpFilter
allowing checksums filter =
    record {
      home = filter.home;
      last = filter.last;
      superblock = filter.superblock;
      summary = filter.summary;
      drawn = filter.drawn;
      checksums = checksums;
    }

-- a journal whose superblock has no bits of checksums is dumped, or refused, as where it may have none
abbrev pub PlainIsDumpedAlike : Type 0
PlainIsDumpedAlike =
    (filter : DumpFilter) (bytes : List ℕ) → AreBytes (take 1024 bytes) → sum_bits (take 1024 bytes) ≡ 0
    → outcome (allowing true filter) bytes ≡ outcome (allowing false filter) bytes
