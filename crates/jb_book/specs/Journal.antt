-- What a round of a desk has done to its journal.
use Rattle.std.specs.Prelude.{◌≡◌, ◌+◌, ◌<◌, ◌≤◌, ◌⊎◌, ◌++◌, length, true, false, ℕ, List, [], All, Result, Ok, Err}
use Rattle.std.specs.Prelude.{OnOk}
use Rattle.std.specs.Global.{Vec}
use Rattle.std.specs.declared.alloc.AllocError.{AllocError}
use Rattle.jb_cost.specs.Cut.{IsLeastCut}
use Rattle.jb_plan.specs.Costs.{cost_in}
use Rattle.jb_plan.specs.Prepare.{Planned, IsPlanned}
use Rattle.jb_block.specs.declared.stamp.Stamp.{Stamp}
use Rattle.jb_disk.specs.Faults.{CountsAny}
use Rattle.jb_disk.specs.KeptOn.{KeptOn}
use Rattle.jb_disk.specs.declared.disk.Disk.{Ghosts}
use Rattle.jb_scan.specs.Found.{log_blocks}
use Rattle.jb_deck.specs.Checkpoints.{run_of_one, AnswersRun, Checkpoints, TakesRun}
use Rattle.jb_deck.specs.CommitBatch.{CommitsBatch, CommitsOnDisk, FindsLive, RefusesBatch, SettlesSome, TakesBatch}
use Rattle.jb_deck.specs.Deck.{OpenDeck}
use Rattle.jb_deck.specs.GroupsOfBatch.{entries_for, groups_in}
use Rattle.jb_deck.specs.Done.{Follow, entries_of, first_ticket, past_after, start_of}
use Rattle.jb_log.specs.Log.{standing, transactions}
use Rattle.jb_deck.specs.ReadHome.{AnswersRead}
use Rattle.jb_deck.specs.TakeTrail.{MayTakeFirst, TakesTrail, oldest_number}
use Rattle.jb_deck.specs.declared.batched.BatchFault.{BatchFault}
use Rattle.jb_deck.specs.declared.batched.BatchFault.TheVariants as batch
use Rattle.jb_deck.specs.declared.checked.Checked.{Checked}
use Rattle.jb_deck.specs.declared.checked.CheckedRun.{CheckedRun}
use Rattle.jb_deck.specs.declared.checked.CheckpointFault.{CheckpointFault}
use Rattle.jb_deck.specs.declared.checked.CheckpointFault.TheVariants as checkpoint
use Rattle.jb_deck.specs.declared.done.Done.{Done}
use Rattle.jb_deck.specs.declared.done.Entry.{Entry}
use Rattle.jb_deck.specs.declared.read.ReadHomeFault.{ReadHomeFault}
use Rattle.jb_book.specs.Origin.{Begun}
use Rattle.jb_handle.specs.Word.{WordMap}
use Rattle.jb_board.specs.HistoryRule.{StandsIn}
use Rattle.jb_book.specs.History.{IsStop}
use Rattle.jb_book.specs.SinceMark.{HasSettledOf}
use Rattle.jb_book.specs.Since.{IsSince, IsSinceOf}
use Rattle.jb_book.specs.declared.checkpoint.CheckpointRound.{CheckpointRound}
use Rattle.jb_book.specs.declared.checkpoint.CheckpointRound.TheVariants.{Low, Home}

-- how many blocks of its log the live groups of a journal take
abbrev pub blocks_in_use : {D : Type 0} → OpenDeck D → ℕ
blocks_in_use d = log_blocks (transactions d.log d.groups)

-- how many groups go home together at most in a round at a level
abbrev pub most_at_once : ℕ
most_at_once = 64

-- What a checkpoint at a level answers, and what it makes of the journal, of which this many calls had failed before it
-- and after it. The journal has not failed and fewer blocks of its log than the level are in use, exactly where it
-- answers `Low`, with how many: it does nothing then. Otherwise it is the journal's own, of this many groups at most
abbrev pub AnswersAt : {D : Type 0} → ℕ → ℕ → ℕ → OpenDeck D → OpenDeck D → Result CheckpointRound CheckpointFault
    → Type 0
AnswersAt level before after old new (Ok (Low used)) =
    (old.aborted ≡ false) × (used ≡ blocks_in_use old) × (used < level) × (new ≡ old)
AnswersAt level before after old new (Ok (Home run)) =
    (level ≤ blocks_in_use old) × AnswersRun most_at_once before after old new (Ok run)
AnswersAt level before after old new (Err fault) =
    ((old.aborted ≡ true) ⊎ (level ≤ blocks_in_use old)) × AnswersRun most_at_once before after old new (Err fault)

module _ {D : Type 0} (G : Ghosts D) (b : Begun) where
  -- The desk's journal before and after it committed this batch, by a cut of its handles within the journal's limit
  -- that takes the fewest log blocks. The groups that are settled are those of the cut, with their handles, numbers and
  -- blocks, and the trail has them. The handles that it was given are those of before, and then the batch's
  pub record CutsBatch (p : Planned) (done : Done) : Type 0 where
    pub least : IsLeastCut (cost_in p.batch.shape p.batch.handles) p.batch.shape.limit (length p.batch.handles) p.groups
    pub old : OpenDeck D
    pub new : OpenDeck D
    pub takes : TakesBatch old p
    pub first : first_ticket done ≡ p.batch.first
    pub entries : entries_of done
        ≡ entries_for (cost_in p.batch.shape p.batch.handles) p.batch.first old.log.next p.groups
    pub trail : new.trail ≡ old.trail ++ entries_of done
    pub next : new.log.next ≡ old.log.next + groups_in p.groups
    pub up : new.aborted ≡ false
    pub before : IsSince G b old
    pub after : IsSince G b new
    pub adds : after.given ≡ before.given ++ p.batch.handles

  -- so it has committed this batch, of which these are the groups; and so its log and its disk have them
  pub record IsRound (p : Planned) (done : Done) : Type 0 where
    pub planned : IsPlanned p
    pub stamp : Stamp
    pub cut : CutsBatch p done
    pub same_disk : KeptOn G CountsAny cut.old.disk cut.new.disk
    pub commits : CommitsBatch p stamp cut.old cut.new done
    pub on_disk : b.is_known → G.honest cut.new.disk → CommitsOnDisk G.newest p stamp cut.old cut.new
    pub finds : b.is_known → G.honest cut.new.disk
        → FindsLive (G.size cut.old.disk) (G.count cut.old.disk) cut.new.log cut.new.groups (G.newest cut.new.disk)

  -- the desk's journal before and after a commit of a prepared batch in which a call of its disk failed: these groups,
  -- first ones of the batch, are settled in it
  pub record FailsRound (p : Planned) (settled : Done) : Type 0 where
    pub planned : IsPlanned p
    pub stamp : Stamp
    pub old : OpenDeck D
    pub new : OpenDeck D
    pub same_disk : KeptOn G CountsAny old.disk new.disk
    pub takes : TakesBatch old p
    pub settles : SettlesSome p stamp old new settled
    pub before : IsSince G b old
    pub after : IsSince G b new
    pub adds : after.given ≡ before.given ++ p.batch.handles

  -- The desk's journal, which has not failed, before and after it refused a batch for this fault: it begins at another
  -- ticket than is expected, is for another shape, or needs numbers that are spent. Nothing has changed
  pub record RefusesRound (p : Planned) (fault : BatchFault) : Type 0 where
    pub planned : IsPlanned p
    pub deck : OpenDeck D
    pub since : IsSince G b deck
    pub up : deck.aborted ≡ false
    pub refuses : RefusesBatch deck p fault

  -- the desk's journal has failed
  pub record HasFailed : Type 0 where
    pub deck : OpenDeck D
    pub since : IsSince G b deck
    pub failed : deck.aborted ≡ true

  -- the desk's journal before and after its oldest live group was written home
  pub record TakesHome (checked : Checked) : Type 0 where
    pub old : OpenDeck D
    pub new : OpenDeck D
    pub same_disk : KeptOn G CountsAny old.disk new.disk
    pub up : old.aborted ≡ false
    pub takes : TakesRun 1 old new (run_of_one checked)
    pub checkpoints : b.is_known → G.honest new.disk → Checkpoints G.newest old new
    pub before : IsSince G b old
    pub after : IsSince G b new

  -- the desk's journal before and after these entries were taken from the front of its trail, which has no gap: of
  -- groups that are home, with no ticket from `past` on. It was given the same handles
  pub record TakesEntries (taken : List Entry) : Type 0 where
    pub past : ℕ
    pub old : OpenDeck D
    pub new : OpenDeck D
    pub tiles : Follow (start_of old.trail) 0 (past_after 0 old.trail) old.trail
    pub takes : TakesTrail past old new taken
    pub before : IsSince G b old
    pub after : IsSince G b new
    pub same : after.given ≡ before.given

  -- the first entry of the desk's journal may be taken
  pub record HasEntries : Type 0 where
    pub past : ℕ
    pub deck : OpenDeck D
    pub since : IsSince G b deck
    pub some : MayTakeFirst (oldest_number deck) past deck.trail

  -- entries of the desk's journal were taken; or there was no memory for some that may be
  abbrev pub GivesTrail : Result (Vec Entry) AllocError → Type 0
  GivesTrail (Ok taken) = TakesEntries taken.items
  GivesTrail (Err memory) = HasEntries

  -- no group is live in the desk's journal, which has not failed
  pub record HasNone : Type 0 where
    pub deck : OpenDeck D
    pub since : IsSince G b deck
    pub up : deck.aborted ≡ false
    pub none : deck.groups ≡ []

  -- The desk's journal before and after a home was read into this many bytes, which then are these: what is answered,
  -- in the words of the journal's own read. Nothing that the journal knows has changed, nor has what an honest disk
  -- holds; where the read has ended well, the bytes are what the home holds. The journal was given the handles of this
  -- history, and has settled what it had settled at the marks that were seen before. As it was after the read it is one
  -- of the marks that are seen then: where the disk is honest at a later time at which these last, it was so here.
  pub record ReadsHome (known : List WordMap) (marks marks_after : List (OpenDeck D)) (home bytes : ℕ) (found : List ℕ)
      (result : Result (Unit {0}) ReadHomeFault) : Type 0 where
    pub old : OpenDeck D
    pub new : OpenDeck D
    pub same_disk : KeptOn G CountsAny old.disk new.disk
    pub answers : AnswersRead (G.size old.disk) (G.faults old.disk) (G.faults new.disk) old new home bytes result
    pub stands : b.is_known → G.honest new.disk
        → OnOk result (found ≡ standing old.log old.groups (G.newest old.disk) home)
    pub content : b.is_known → G.honest new.disk → G.newest new.disk ≡ G.newest old.disk
    pub before : IsSinceOf G b (IsStop b known) old
    pub after : IsSinceOf G b (IsStop b known) new
    pub settled : All (HasSettledOf old) marks
    pub at : ℕ
    pub marked : StandsIn marks_after (at, new)

  -- what a commit of this batch has done: all of it is committed; or the journal does not take the batch, or it has
  -- failed
  abbrev pub EndsRound : Planned → Result Done BatchFault → Type 0
  EndsRound p (Ok done) = IsRound p done
  EndsRound p (Err (batch.Aborted back)) = HasFailed
  EndsRound p (Err (batch.WrongTicket back expected)) = RefusesRound p (batch.WrongTicket back expected)
  EndsRound p (Err (batch.OtherShape back)) = RefusesRound p (batch.OtherShape back)
  EndsRound p (Err (batch.NumbersSpent back)) = RefusesRound p (batch.NumbersSpent back)
  EndsRound p (Err (batch.Memory back)) = Unit {0}
  EndsRound p (Err (batch.DeviceFault settled)) = FailsRound p settled

  -- what a round of a checkpointer has done: the oldest group is home, none was live, or the journal has failed
  abbrev pub ChecksRound : Result Checked CheckpointFault → Type 0
  ChecksRound (Ok checked) = TakesHome checked
  ChecksRound (Err checkpoint.Nothing) = HasNone
  ChecksRound (Err checkpoint.Aborted) = HasFailed
  ChecksRound (Err checkpoint.DeviceFault) = HasFailed

  -- fewer blocks of the log than the level are in use in the desk's journal, which has not failed: this many
  pub record IsLow (level used : ℕ) : Type 0 where
    pub deck : OpenDeck D
    pub since : IsSince G b deck
    pub up : deck.aborted ≡ false
    pub in_use : used ≡ blocks_in_use deck
    pub low : used < level

  -- the desk's journal before and after its live groups were written home together, at most this many of them, where
  -- this many blocks of the log were in use at least
  pub record TakesHomeAt (level : ℕ) (run : CheckedRun) : Type 0 where
    pub old : OpenDeck D
    pub new : OpenDeck D
    pub same_disk : KeptOn G CountsAny old.disk new.disk
    pub up : old.aborted ≡ false
    pub high : level ≤ blocks_in_use old
    pub takes : TakesRun most_at_once old new run
    pub checkpoints : b.is_known → G.honest new.disk → Checkpoints G.newest old new
    pub before : IsSince G b old
    pub after : IsSince G b new

  -- What a round of a checkpointer at a level has done: fewer blocks of the log are in use; or as many were, and the
  -- oldest groups are home, all that were live or this many; or none was live, and the level is 0; or the journal has
  -- failed
  abbrev pub ChecksAt : ℕ → Result CheckpointRound CheckpointFault → Type 0
  ChecksAt level (Ok (Low used)) = IsLow level used
  ChecksAt level (Ok (Home run)) = TakesHomeAt level run
  ChecksAt level (Err checkpoint.Nothing) = (level ≡ 0) × HasNone
  ChecksAt level (Err checkpoint.Aborted) = HasFailed
  ChecksAt level (Err checkpoint.DeviceFault) = HasFailed
