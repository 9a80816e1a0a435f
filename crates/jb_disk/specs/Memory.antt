-- What a disk in memory keeps of its fields.
use Rattle.std.specs.Prelude.{◌≡◌, length}
use Rattle.jb_disk.specs.History.{DiskHistory, IsHistorySound, replay}
use Rattle.jb_disk.specs.Calls.{steps_of, image_of}
use Rattle.jb_disk.specs.declared.memory.MemoryDisk.TheInside.{Inside}

-- the history of the disk with these fields
abbrev pub history_of : Inside → DiskHistory
history_of a = record {
  size = a.size;
  count = length a.first.items;
  first = image_of a.first.items;
  steps = steps_of a.calls.items;
  faults = a.faults;
}

-- the history is sound, and the blocks kept with it are those that it leads to
pub record IsHistoryKept (a : Inside) : Type 0 where
  pub sound : IsHistorySound (history_of a)
  pub newest : image_of a.newest.items ≡ replay (image_of a.first.items) (steps_of a.calls.items)
