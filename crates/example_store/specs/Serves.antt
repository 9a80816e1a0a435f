-- What the store's worker answers of its commands.
use Rattle.std.specs.Prelude.{◌≡◌, ◌≤◌, ◌+◌, ℕ, All, List, length, take, Result, OnOk}
use Rattle.jb_journal.specs.Names.{Begun, StandsIn}
use Rattle.jb_journal.specs.Notes.{AreInNotes, Known, Stop}
use Rattle.example_store.specs.Commands.{HasKey, after_commands, changes_among, replies_to}
use Rattle.example_store.specs.Handles.{IsAlone, LeavesMap, RiseFrom, as_stopped}
use Rattle.example_store.specs.Maps.{map_of}
use Rattle.example_store.specs.declared.command.Command.{Command}
use Rattle.example_store.specs.declared.command.Reply.{Reply}
use Rattle.example_store.specs.declared.failed.Failed.{Failed}

-- the commands that were replied to
abbrev pub replied_among : List Command → List Reply → List Command
replied_among commands replies = take (length replies) commands

-- and the one after them, which may have been begun
abbrev pub begun_among : List Command → List Reply → List Command
begun_among commands replies = take (length replies + 1) commands

-- What a worker has done that was to obey these commands, and gave these replies: to the first of them, and where it
-- ended well to all. Its client has stopped these handles, each later than those before it; there is one for each
-- change that was replied to, all of which are known to be committed, and one more at most. Where the client is alone,
-- and no command is of the key 0, the replies are those by the map that the homes said at the start, and the first
-- handles, however many, make of this map what as many changes make of it
pub record Serves (commands : List Command) (b : Begun) (sure : Type 0) (stops : List Stop) (known : Known)
    (replies : List Reply) (ended : Result Unit Failed) : Type 0 where
  pub within : length replies ≤ length commands
  pub whole : OnOk ended (length replies ≡ length commands)
  pub stand : All (StandsIn known.log) stops
  pub rise : RiseFrom 0 stops
  pub noted : AreInNotes known.notes (take (length (changes_among (replied_among commands replies))) stops)
  pub each : length (changes_among (replied_among commands replies)) ≤ length stops
  pub few : length stops ≤ length (changes_among (begun_among commands replies))
  pub told : IsAlone b sure known stops → All HasKey commands
      → replies ≡ replies_to (map_of b.homes) (replied_among commands replies)
  pub leaves : IsAlone b sure known stops → All HasKey commands → (many : ℕ) → many ≤ length stops
      → LeavesMap b.homes (after_commands (map_of b.homes) (take many (changes_among commands)))
      (take many (as_stopped stops))
