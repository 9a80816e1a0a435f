-- A get after a put: in one run, and in a run of what a crash has left of another one.
use Rattle.std.specs.Prelude.{◌≡◌, ◌≤◌, ◌<◌, ℕ, suc, All, List, length, take, drop, Some, slice_get}
use Rattle.jb_disk.specs.File.{FileLeft, IsHonest, count_of}
use Rattle.jb_journal.specs.Names.{FileDisk, ImageGeometry, Starts}
use Rattle.jb_journal.specs.Notes.{IsInNotes}
use Rattle.jb_journal.specs.OpenFile.{WasRecovered}
use Rattle.jb_journal.specs.declared.ran.Ran.{Ran}
use Rattle.example_store.specs.Commands.{HasKey, LeavesKey, after_commands, replies_to}
use Rattle.example_store.specs.Keeps.{KeepsInImage, begun_changes, replied_changes}
use Rattle.example_store.specs.Maps.{Mapping, map_in_file}
use Rattle.example_store.specs.Serves.{replied_among}
use Rattle.example_store.specs.declared.command.Command.{Command}
use Rattle.example_store.specs.declared.command.Command.TheVariants.{Put, Get}
use Rattle.example_store.specs.declared.command.Reply.TheVariants.{Found}
use Rattle.example_store.specs.declared.served.Served.{Served}

-- among commands that are replied to as they should be, a get is replied the value of an earlier put of its key that no
-- command between them has changed
abbrev pub GetFindsPut : Type 0
GetFindsPut =
    (m : Mapping) (commands : List Command) (key value put get : ℕ)
    → slice_get commands put ≡ Some (Put key value) → put < get → slice_get commands get ≡ Some (Get key)
    → All (LeavesKey key) (drop (suc put) (take get commands))
    → slice_get (replies_to m commands) get ≡ Some (Found key (Some value))

module _ {S T : Type 0} (start : Starts S) (after : Starts T) where
  -- The store was run in a file, and replied to this change. A crash at some time since it was known to be committed
  -- has left what the file held when it was opened again, with as many blocks and its journal recovered; and the store
  -- was run in it with further commands. No command is of the key 0, and the file was honest all the time
  pub record IsRunAgain (geometry : ImageGeometry) (commands more : List Command) (ran : Ran Served (FileDisk S start))
      (again : Ran Served (FileDisk T after)) (change : ℕ) : Type 0 where
    pub first : KeepsInImage geometry commands ran
    pub second : KeepsInImage geometry more again
    pub keys : All HasKey commands
    pub more_keys : All HasKey more
    pub replied : change < length (replied_changes commands first.keeps.served)
    pub number : ℕ
    pub noted : IsInNotes first.keeps.knew.notes change number
    pub left : FileLeft ran.disk noted.note.moment (after.content 0)
    pub as_many : count_of second.opened ≡ count_of first.opened
    pub ready : WasRecovered geometry.block_size second.opened
    pub honest : IsHonest ran.disk
    pub honest_then : IsHonest second.opened
    pub honest_again : IsHonest again.disk

  -- the second run replies by the map that the first changes of the first run have made of what its homes said, all
  -- that were replied to up to this one at least
  abbrev pub SecondRunGoesOn : Type 0
  SecondRunGoesOn =
      (geometry : ImageGeometry) (commands more : List Command) (ran : Ran Served (FileDisk S start))
      (again : Ran Served (FileDisk T after)) (change : ℕ)
      → (is : IsRunAgain geometry commands more ran again change)
      → (many : ℕ) × (suc change ≤ many) × (many ≤ length (begun_changes commands is.first.keeps.served))
      × (is.second.keeps.served.replies.items
      ≡ replies_to
      (after_commands (map_in_file is.first.opened) (take many (begun_changes commands is.first.keeps.served)))
      (replied_among more is.second.keeps.served.replies.items))

  -- so a get of the second run is replied the value of a put that the first run has replied to, where no command that
  -- was begun after it has changed its key
  abbrev pub SecondRunFindsPut : Type 0
  SecondRunFindsPut =
      (geometry : ImageGeometry) (commands more : List Command) (ran : Ran Served (FileDisk S start))
      (again : Ran Served (FileDisk T after)) (change : ℕ)
      → (is : IsRunAgain geometry commands more ran again change)
      → (key value get : ℕ)
      → slice_get (begun_changes commands is.first.keeps.served) change ≡ Some (Put key value)
      → All (LeavesKey key) (drop (suc change) (begun_changes commands is.first.keeps.served))
      → slice_get more get ≡ Some (Get key) → All (LeavesKey key) (take get more)
      → get < length is.second.keeps.served.replies.items
      → slice_get is.second.keeps.served.replies.items get ≡ Some (Found key (Some value))
