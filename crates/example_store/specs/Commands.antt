-- What commands make of a map, and what the store is to reply to them.
use Rattle.std.specs.Prelude.{◌≢◌, ℕ, Bool, true, false, List, [], ◌∷◌, Some, None}
use Rattle.std.specs.List.{filter}
use Rattle.example_store.specs.Maps.{Mapping, with_value}
use Rattle.example_store.specs.declared.command.Command.{Command}
use Rattle.example_store.specs.declared.command.Command.TheVariants.{Put, Get, Delete}
use Rattle.example_store.specs.declared.command.Reply.{Reply}
use Rattle.example_store.specs.declared.command.Reply.TheVariants.{Stored, Found, Deleted}

-- what a command makes of a map
abbrev pub after_command : Mapping → Command → Mapping
after_command m (Put key value) = with_value m key (Some value)
after_command m (Get key) = m
after_command m (Delete key) = with_value m key None

-- what commands make of a map, one after the other
abbrev pub after_commands : Mapping → List Command → Mapping
after_commands m [] = m
after_commands m (c ∷ cs) = after_commands (after_command m c) cs

-- what the store is to reply to a command, by the map as it is then
abbrev pub reply_to : Mapping → Command → Reply
reply_to m (Put key value) = Stored key
reply_to m (Get key) = Found key (m key)
reply_to m (Delete key) = Deleted key

-- what it is to reply to commands, one after the other
abbrev pub replies_to : Mapping → List Command → List Reply
replies_to m [] = []
replies_to m (c ∷ cs) = reply_to m c ∷ replies_to (after_command m c) cs

-- whether a command is to change the map
abbrev pub is_change : Command → Bool
is_change (Put key value) = true
is_change (Get key) = false
is_change (Delete key) = true

-- those of the commands that are to change the map
abbrev pub changes_among : List Command → List Command
changes_among commands = filter is_change commands

-- the command names a key, which 0 is not
abbrev pub HasKey : Command → Type 0
HasKey (Put key value) = key ≢ 0
HasKey (Get key) = key ≢ 0
HasKey (Delete key) = key ≢ 0

-- the command leaves what this key has
abbrev pub LeavesKey : ℕ → Command → Type 0
LeavesKey key (Put other value) = key ≢ other
LeavesKey key (Get other) = Unit {0}
LeavesKey key (Delete other) = key ≢ other
