-- What the store's calls do to the homes: by handles of one home, and as changes of the map that the homes say.
use Rattle.std.specs.Prelude.{◌≡◌, ◌≢◌, ◌⊎◌, ◌%◌, ◌≤◌, ℕ, suc, Option, List, [], ◌∷◌, ◌++◌, length, map, Result, Ok}
use Rattle.std.specs.Prelude.{Err}
use Rattle.jb_journal.specs.Client.{one_block}
use Rattle.jb_journal.specs.Names.{Begun, StandsBy, Stopped, TicketsFrom, word}
use Rattle.jb_journal.specs.Notes.{AreInNotes, IsInNotes, Known, KnowsMore, ReadsAs, Stop}
use Rattle.example_store.specs.Commands.{HasKey, after_command, changes_among, reply_to}
use Rattle.example_store.specs.Maps.{Mapping}
use Rattle.example_store.specs.Tables.{ChangesValue, value_at}
use Rattle.example_store.specs.declared.command.Command.{Command}
use Rattle.example_store.specs.declared.command.Reply.{Reply}
use Rattle.example_store.specs.declared.failed.Failed.{Failed}

-- ---- homes and their bytes

-- a home was read, with what the calls that read it promise of its bytes, and the bytes say this
pub record WasRead (b : Begun) (sure : Type 0) (before after : Known) (home : ℕ) (says : List ℕ → Type 0) : Type 0 where
  pub bytes : List ℕ
  pub read : ReadsAs b sure before after home bytes
  pub said : says bytes

-- one handle more has stopped, which leaves these bytes in this home and touches no other; its ticket is higher than
-- those of all handles that were known before
pub record StopsBlock (home : ℕ) (bytes : List ℕ) (before : Known) (old new : List Stop) : Type 0 where
  pub ticket : ℕ
  pub stopped : new ≡ old ++ (ticket, one_block home bytes) ∷ []
  pub later : length before.log ≤ ticket

-- what is answered to a block that is to be put into this home: its handle has stopped, and is known to be committed;
-- after a fault it may have stopped
abbrev pub PutsBlock : {E : Type 0} → ℕ → List ℕ → Known → Known → List Stop → List Stop → Result Unit E → Type 0
PutsBlock home bytes before after old new (Ok unit) =
    (put : StopsBlock home bytes before old new) × ((number : ℕ) × IsInNotes after.notes put.ticket number)
PutsBlock home bytes before after old new (Err fault) = (new ≡ old) ⊎ StopsBlock home bytes before old new

-- The home of a key was read, and then one handle more has stopped, which touches this home alone: it leaves bytes that
-- give the key this value, or none, and all other keys what those gave that were read
pub record ChangesKey (b : Begun) (sure : Type 0) (key : ℕ) (value : Option ℕ) (before after : Known)
    (old new : List Stop) : Type 0 where
  pub seen : Known
  pub knew : KnowsMore before seen
  pub knows : KnowsMore seen after
  pub was : List ℕ
  pub read : ReadsAs b sure before seen (key % 32) was
  pub bytes : List ℕ
  pub changes : ChangesValue key value (value_at was) (value_at bytes)
  pub put : StopsBlock (key % 32) bytes seen old new

-- what is answered to a key that is to have this value, or none: its handle has stopped, and is known to be committed;
-- after a fault it may have stopped
abbrev pub AnswersKey : {E : Type 0} → Begun → Type 0 → ℕ → Option ℕ → Known → Known → List Stop → List Stop
    → Result Unit E → Type 0
AnswersKey b sure key value before after old new (Ok unit) =
    (change : ChangesKey b sure key value before after old new)
    × ((number : ℕ) × IsInNotes after.notes change.put.ticket number)
AnswersKey b sure key value before after old new (Err fault) =
    (new ≡ old) ⊎ ChangesKey b sure key value before after old new

-- ---- handles and the map

-- the handles as a journal is given them
abbrev pub as_stopped : List Stop → List Stopped
as_stopped stops = map (λ stop. record { ticket = stop.0; words = stop.1 }) stops

-- tickets that rise, from one that is this at least
abbrev pub RiseFrom : ℕ → List Stop → Type 0
RiseFrom least [] = Unit {0}
RiseFrom least (stop ∷ stops) = (least ≤ stop.0) × RiseFrom (suc stop.0) stops

-- these are all handles that are known: they have the tickets from 0 on, and are as many as are known
pub record AreAll (known : Known) (stops : List Stop) : Type 0 where
  pub tickets : TicketsFrom 0 (as_stopped stops)
  pub number : length known.log ≡ length stops

-- all handles that a client knows are its own, the start is known, and the disk is sure to have been honest
abbrev pub IsAlone : Begun → Type 0 → Known → List Stop → Type 0
IsAlone b sure known stops = AreAll known stops × b.is_known × sure

-- homes that held this say this map after these handles: what the home of a key holds by them gives the key its value
abbrev pub LeavesMap : (ℕ → List ℕ) → Mapping → List Stopped → Type 0
LeavesMap homes m handles =
    (key : ℕ) → key ≢ 0 → (found : List ℕ) → StandsBy (word handles (key % 32)) (homes (key % 32)) found
    → value_at found key ≡ m key

-- What a command does at most: it stops as many handles as it is to make changes, or none, with tickets higher than
-- those of all handles that were known before. Where its client is alone, and it has stopped as many, these make of
-- each map that the handles before have left what the command makes of it
pub record MayChange (b : Begun) (sure : Type 0) (command : Command) (before after : Known) (old new : List Stop)
    : Type 0 where
  pub more : List Stop
  pub stopped : new ≡ old ++ more
  pub later : RiseFrom (length before.log) more
  pub few : length more ≤ length (changes_among (command ∷ []))
  pub leaves : IsAlone b sure after new → HasKey command → length more ≡ length (changes_among (command ∷ []))
      → (m : Mapping) → LeavesMap b.homes m (as_stopped old)
      → LeavesMap b.homes (after_command m command) (as_stopped new)

-- A command is obeyed: it has made its change, if it is to make one, and this is known to be committed. Where its
-- client is alone it is replied to by each map that the handles before have left
pub record IsObeyed (b : Begun) (sure : Type 0) (command : Command) (before after : Known) (old new : List Stop)
    (reply : Reply) : Type 0 where
  pub made : MayChange b sure command before after old new
  pub whole : length made.more ≡ length (changes_among (command ∷ []))
  pub noted : AreInNotes after.notes new
  pub told : IsAlone b sure after new → HasKey command → (m : Mapping) → LeavesMap b.homes m (as_stopped old)
      → reply ≡ reply_to m command

-- what is answered to a command: it is obeyed, or after a fault has done no more than it may
abbrev pub Obeys : Begun → Type 0 → Command → Known → Known → List Stop → List Stop → Result Reply Failed → Type 0
Obeys b sure command before after old new (Ok reply) = IsObeyed b sure command before after old new reply
Obeys b sure command before after old new (Err failed) = MayChange b sure command before after old new
