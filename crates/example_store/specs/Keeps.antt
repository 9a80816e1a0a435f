-- What a run of the store has replied, and what it keeps of it.
use Rattle.std.specs.Prelude.{◌≡◌, ◌≢◌, ◌⊎◌, ◌≤◌, ◌<◌, ℕ, suc, All, List, [], ◌∷◌, length, take, IsOk, OnOk}
use Rattle.jb_disk.specs.Image.{Image}
use Rattle.jb_recover.specs.Outcomes.{recovered}
use Rattle.jb_journal.specs.Names.{FileDisk, Ghosts, ImageGeometry, Starts, as_file}
use Rattle.jb_journal.specs.Notes.{IsInNotes, Known}
use Rattle.jb_journal.specs.OpenFile.{WasRecoveredOrMade}
use Rattle.jb_journal.specs.Run.{AllSettled, RanOn}
use Rattle.jb_journal.specs.Start.{started_on}
use Rattle.jb_journal.specs.declared.ran.Ran.{Ran}
use Rattle.example_store.specs.Commands.{HasKey, after_commands, changes_among, replies_to}
use Rattle.example_store.specs.Maps.{Mapping, map_on}
use Rattle.example_store.specs.Serves.{Serves, begun_among, replied_among}
use Rattle.example_store.specs.declared.command.Command.{Command}
use Rattle.example_store.specs.declared.served.Served.{Served}

-- An image whose homes say what the first of these changes make of this map, so many at least. What recovery makes of
-- the image says so too
pub record SaysFirst (size count : ℕ) (m : Mapping) (changes : List Command) (least : ℕ) (c : Image) : Type 0 where
  pub many : ℕ
  pub from : least ≤ many
  pub to : many ≤ length changes
  pub says : (key : ℕ) → key ≢ 0 → map_on size count c key ≡ after_commands m (take many changes) key
  pub again : (key : ℕ) → key ≢ 0
      → map_on size count (recovered size count c) key ≡ after_commands m (take many changes) key

-- the changes that were replied to, of these commands
abbrev pub replied_changes : List Command → Served → List Command
replied_changes commands served = changes_among (replied_among commands served.replies.items)

-- those that may have been begun: one more at most
abbrev pub begun_changes : List Command → Served → List Command
begun_changes commands served = changes_among (begun_among commands served.replies.items)

-- What the store has replied to these commands, and keeps. There is one worker, which has replied to the first of them,
-- and where it ended well to all. If the disk that is given back is honest, and no command is of the key 0, its replies
-- are those by the map that the homes of the disk said when it was given. Each change that it has replied to is then in
-- a note by which it was known to be committed; and what a crash at any time since such a note leaves says what the
-- first changes make of this map, those up to this one at least, and at most one that was not replied to. What a crash
-- at any time of the run leaves says what some first changes make of it, or is what it might have left before the run
pub record Keeps {D : Type 0} (G : Ghosts D) (disk : D) (commands : List Command) (ran : Ran Served D) : Type 0 where
  pub on : RanOn G disk (started_on G disk)
      (λ shape sure workers at stops known served.
      Serves commands (started_on G disk) sure stops known served.replies.items served.ended) 1 ran
  pub served : Served
  pub answered : ran.answers.items ≡ served ∷ []
  pub within : length served.replies.items ≤ length commands
  pub whole : OnOk served.ended (length served.replies.items ≡ length commands)
  pub told : G.honest ran.disk → All HasKey commands → served.replies.items
      ≡ replies_to (map_on (G.size disk) (G.count disk) (G.newest disk))
      (replied_among commands served.replies.items)
  pub knew : Known
  pub known : on.all.known ≡ knew ∷ []
  pub noted : (change : ℕ) → change < length (replied_changes commands served)
      → (number : ℕ) × IsInNotes knew.notes change number
  pub stays : G.honest ran.disk → All HasKey commands → (change number : ℕ)
      → change < length (replied_changes commands served) → (n : IsInNotes knew.notes change number)
      → (c : Image) → G.left_since ran.disk n.note.moment c
      → SaysFirst (G.size disk) (G.count disk) (map_on (G.size disk) (G.count disk) (G.newest disk))
      (begun_changes commands served) (suc change) c
  pub ever : G.honest ran.disk → All HasKey commands → (c : Image) → G.left_since ran.disk (G.moment disk) c
      → G.left_since disk (G.moment disk) c
      ⊎ SaysFirst (G.size disk) (G.count disk) (map_on (G.size disk) (G.count disk) (G.newest disk))
      (begun_changes commands served) 0 c

-- The same of the file of an image: it was opened with its journal recovered, or its journal was made in it, and this
-- very file was run
pub record KeepsInImage {S : Type 0} {start : Starts S} (geometry : ImageGeometry) (commands : List Command)
    (ran : Ran Served (FileDisk S start)) : Type 0 where
  pub opened : FileDisk S start
  pub ready : WasRecoveredOrMade geometry opened
  pub keeps : Keeps as_file opened commands ran

-- all that was changed is settled, and the worker ended well
abbrev pub EndedWell : {D : Type 0} → Ran Served D → Type 0
EndedWell ran = AllSettled ran × ((served : Served) → ran.answers.items ≡ served ∷ [] → IsOk served.ended)

-- the commands were obeyed in a file of an image: all are replied to, and all that they changed is settled
pub record IsServedIn {S : Type 0} (start : Starts S) (commands : List Command) : Type 0 where
  pub geometry : ImageGeometry
  pub ran : Ran Served (FileDisk S start)
  pub keeps : KeepsInImage geometry commands ran
  pub whole : EndedWell ran
