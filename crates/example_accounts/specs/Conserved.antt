-- What the accounts hold throughout a run, and after it, whenever a crash comes.
use Rattle.std.specs.Prelude.{◌≡◌, ◌⊎◌, ℕ, ◌+◌, ◌≤◌, All, List, length, map, take, None, Some, Result}
use Rattle.std.specs.Global.{Vec}
use Rattle.jb_deck.specs.Open.{recovered_home}
use Rattle.jb_disk.specs.Image.{Image, block}
use Rattle.jb_journal.specs.Names.{Begun, FileDisk, Ghosts, ImageGeometry, IsFirstPart, StandsBy, Starts, Stopped}
use Rattle.jb_journal.specs.Names.{as_file, word}
use Rattle.jb_journal.specs.OpenFile.{WasRecoveredOrMade}
use Rattle.jb_journal.specs.Run.{RanOn}
use Rattle.jb_journal.specs.Start.{started_on}
use Rattle.jb_journal.specs.declared.ran.Ran.{Ran}
use Rattle.example_accounts.specs.Accounts.{money_after, money_in}
use Rattle.example_accounts.specs.Postings.{ArePostings, IsPosted}
use Rattle.example_accounts.specs.declared.moving.Moved.{Moved}
use Rattle.example_accounts.specs.declared.posting.Posting.{Posting}
use Rattle.jb_journal.specs.declared.journal_fault.JournalFault.{JournalFault}

-- each home is as the first so many of these handles leave it, counted from the start; a home that they free may be any
abbrev pub AreAfter : Begun → List Stopped → ℕ → (ℕ → List ℕ) → Type 0
AreAfter b given handles homes = (home : ℕ) → StandsBy (word (take handles given) home) (b.homes home) (homes home)

-- after each first handles of these, by ticket, the accounts hold together what they held at the start, or what they
-- were opened with
abbrev pub HoldsThroughout : Begun → List Stopped → Type 0
HoldsThroughout b given =
    (handles : ℕ) (homes : ℕ → List ℕ) → handles ≤ length given → AreAfter b given handles homes
    → money_in homes ≡ money_after (money_in b.homes) handles

-- so they do in an image, once it is recovered, for some first handles of these
pub record RecoversMoney (b : Begun) (given : List Stopped) (c : Image) : Type 0 where
  pub handles : ℕ
  pub within : handles ≤ length given
  pub holds : money_in (recovered_home b.size b.count c) ≡ money_after (money_in b.homes) handles

-- What was run on this disk conserves the money of the accounts, if the disk that is given back is honest: after each
-- first handles by ticket of those that the journal was given; in what a crash leaves, at any time since the run
-- began, once it is recovered, unless it was left before; and on that disk, where no block of the log is in use. All
-- handles that stopped are posted, those of all threads in one list, in which each begins with what the one before has
-- left
pub record Conserves {T D : Type 0} (G : Ghosts D) (disk : D) (ran : Ran T D) : Type 0 where
  pub postings : List Posting
  pub follow : ArePostings None postings
  pub on : RanOn G disk (started_on G disk)
      (λ shape sure workers at stops known ended. All (IsPosted (started_on G disk) sure postings) stops) 4 ran
  pub holds : G.honest ran.disk → HoldsThroughout (started_on G disk) on.all.ends.since.given
  pub crash : G.honest ran.disk → (c : Image) → G.left_since ran.disk (G.moment disk) c
      → G.left_since disk (G.moment disk) c ⊎ RecoversMoney (started_on G disk) on.all.ends.since.given c
  pub home : G.honest ran.disk → ran.in_log ≡ Some 0
      → money_in (λ home. block (G.newest ran.disk) ((started_on G disk).own.maxlen + home))
      ≡ money_after (money_in (started_on G disk).homes) (length on.all.ends.since.given)

-- the same of the file of an image: it was opened with its journal recovered, or its journal was made in it, and the
-- run of that very file conserves the money of its accounts
pub record ConservesInImage {T S : Type 0} {start : Starts S} (geometry : ImageGeometry)
    (ran : Ran T (FileDisk S start)) : Type 0 where
  pub opened : FileDisk S start
  pub ready : WasRecoveredOrMade geometry opened
  pub conserves : Conserves as_file opened ran

-- how a worker ended
abbrev pub ended_of : {L : Type 0} → Moved L → Result Unit JournalFault
ended_of moved = moved.ended

-- what is left of a run, with other answers
abbrev pub with_answers : {T U D : Type 0} → Vec U → Ran T D → Ran U D
with_answers answers ran = record {
  disk = ran.disk;
  answers = answers;
  handles = ran.handles;
  settled = ran.settled;
  changes = ran.changes;
  trail = ran.trail;
  in_log = ran.in_log;
  commit = ran.commit;
  checkpoint = ran.checkpoint;
}

-- What is told of a run: how each worker ended. What each has seen of the postings, all of them begin with
pub record TellsEnds {L D : Type 0} (ran : Ran (Moved L) D) (told : Ran (Result Unit JournalFault) D) : Type 0 where
  pub postings : List Posting
  pub follow : ArePostings None postings
  pub seen : All (λ moved. IsFirstPart moved.seen postings) ran.answers.items
  pub ended : told.answers.items ≡ map ended_of ran.answers.items
  pub same : told ≡ with_answers told.answers ran
