-- The start that a journal's run is judged by.
use Rattle.std.specs.Prelude.{◌⊎◌}
use Rattle.jb_deck.specs.Open.{recovered_home, FollowsEntry}
use Rattle.jb_book.specs.Origin.{Begun, own_on}
use Rattle.jb_disk.specs.declared.disk.Disk.{Ghosts}

-- the disk as it was given: its homes as recovery leaves them, with any words that a handle may stop with; of what a
-- crash left before it was given nothing is said
abbrev pub started_on : {D : Type 0} → Ghosts D → D → Begun
started_on G disk = record {
  is_known = Unit {0};
  none_failed = G.well_asked disk × G.may_go_on disk;
  size = G.size disk;
  count = G.count disk;
  faults = G.faults disk;
  own = own_on (G.size disk) (G.count disk) (G.newest disk);
  homes = recovered_home (G.size disk) (G.count disk) (G.newest disk);
  since = G.moment disk;
  left = λ c. G.left_since disk (G.moment disk) c ⊎ FollowsEntry (G.size disk) (G.count disk) (G.newest disk) c;
  stops = λ words. Unit {0};
}
