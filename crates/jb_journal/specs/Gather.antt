-- What the threads of a run left is put together, and the desk is closed with it.
use Rattle.std.specs.Prelude.{◌≡◌, ◌⊎◌, ◌≤◌, ◌+◌, ℕ, Bool, true, All, List, [], ◌++◌, map, option_to_list, vec_len}
use Rattle.std.specs.Prelude.{vec_capacity}
use Rattle.std.specs.Global.{Vec}
use Rattle.std.specs.List.{sum_by}
use Rattle.jb_cost.specs.Pieces.{joined}
use Rattle.jb_disk.specs.declared.disk.Disk.{Ghosts as Disks}
use Rattle.jb_handle.specs.declared.shape.Shape.{Shape}
use Rattle.jb_deck.specs.Done.{Follow, start_of}
use Rattle.jb_desk.specs.Seats.{changes_left, made_left}
use Rattle.jb_desk.specs.declared.desk.closing.Closed.{Closed}
use Rattle.jb_desk.specs.declared.seat.Left.{Left}
use Rattle.jb_book.specs.Account.{changed_by}
use Rattle.jb_book.specs.History.{CameAbout}
use Rattle.jb_book.specs.Origin.{Begun}
use Rattle.jb_book.specs.Since.{EndsSince}
use Rattle.jb_book.specs.SinceMark.{EndsSeen}
use Rattle.jb_book.specs.AtHome.{EndsUsing}
use Rattle.jb_book.specs.declared.origin.Origin.{Ghosts}
use Rattle.jb_book.specs.declared.sights.Sights.{Sights}
use Rattle.jb_board.specs.declared.place.Place.{Ghosts as Places}
use Rattle.jb_journal.specs.Run.{HasAllSeen, stops_left_by, stops_of_worked}
use Rattle.jb_journal.specs.RunFaults.{IsUnused}
use Rattle.jb_journal.specs.declared.fault.RunFault.TheVariants.{NoThread, Accounts}
use Rattle.jb_journal.specs.declared.not_run.NotRun.{NotRun}
use Rattle.jb_journal.specs.declared.room.Room.{Room}
use Rattle.jb_journal.specs.declared.thread_results.ThreadResults.{ThreadResults}
use Rattle.jb_journal.specs.declared.ran.Ran.{Ran}
use Rattle.jb_journal.specs.declared.threads.Threaded.{Threaded}
use Rattle.jb_journal.specs.declared.threads.WorkerResult.{WorkerResult}

module _ {D H : Type 0} {O : Ghosts H} {P : Places H} where
  -- a desk was closed with what its seats left and the marks that were seen
  pub record HasEnded {C : Type 0} (G : Disks D) (b : Begun) (lefts : List (Left H O P)) (seen : Sights D H)
      (closed : Closed D C) : Type 0 where
    pub changes : closed.changes ≡ sum_by changes_left lefts
    pub within : (past : ℕ) × Follow (start_of closed.trail.items) 0 past closed.trail.items × (past ≤ closed.handles)
    pub since : EndsSince G b closed.disk closed.trail.items
    pub ends : EndsUsing G b (map made_left lefts) closed.handles closed.shape closed.disk closed.trail.items seen.stops
        seen.marks closed.in_log
    pub came : CameAbout G b (map made_left lefts) closed.shape closed.disk closed.trail.items

-- nothing is in the list yet, and there is room for this many in it
pub record IsFree {A : Type 0} (many : ℕ) (v : Vec A) : Type 0 where
  pub none : v.items ≡ []
  pub empty : vec_len v ≡ 0
  pub room : many ≤ vec_capacity v

module _ {T D H : Type 0} {O : Ghosts H} {P : Places H} where
  -- a run's room is free for this many workers, their seats and the committer's
  pub record IsRoomFor (workers : ℕ) (room : Room T D H O P) : Type 0 where
    pub places : IsFree workers room.places
    pub lefts : IsFree (workers + 1) room.lefts
    pub answers : IsFree workers room.answers

  -- what a worker answered, if it was called
  abbrev pub answers_of : WorkerResult T D H O P → List T
  answers_of w = option_to_list w.answer

-- what is not told of a desk that was closed, with these answers: the accounts do not agree, or where threads were
-- waited for in vain, no worker has answered and no handle stopped
pub record IsNotTold {T D C : Type 0} (closed : Closed D C) (answers : Vec T) (given_up : Bool) (back : NotRun T D)
    : Type 0 where
  pub same_disk : back.disk ≡ closed.disk
  pub same_answers : back.answers ≡ answers
  pub why : (back.fault ≡ Accounts)
      ⊎ ((back.fault ≡ NoThread) × (given_up ≡ true) × (answers.items ≡ []) × (closed.handles ≡ 0))

module _ {T D H : Type 0} {O : Ghosts H} {P : Places H} where
  -- what the threads left is put together: what each worker has answered, what the committer's seat and those of the
  -- workers left, and all that is seen
  pub record IsGatheredFrom (ran : Threaded T D H O P) (all : ThreadResults T D H O P) : Type 0 where
    pub answers : all.answers.items ≡ joined (map answers_of ran.workers.items)
    pub stops : joined (map made_left all.lefts.items)
        ≡ stops_left_by ran.committer ++ joined (map stops_of_worked ran.workers.items)
    pub seen : All (HasAllSeen all.seen) ran.workers.items

  -- A desk was closed with what was put together, and there is no whole answer: its journal ends with what was seen;
  -- where threads were waited for in vain, no worker has answered, and the journal was given no handle
  pub record IsUntold (G : Disks D) (b : Begun) (all : ThreadResults T D H O P) (given_up : Bool)
      (back : NotRun T D) : Type 0 where
    pub same_answers : back.answers ≡ all.answers
    pub ends : EndsSeen G b back.disk all.seen.stops all.seen.marks
    pub why : (back.fault ≡ Accounts)
        ⊎ ((back.fault ≡ NoThread) × (given_up ≡ true) × (all.answers.items ≡ []) × IsUnused G b back.disk)

  -- a desk was closed with what was put together: the answers, of each of this many workers, are given on, the changes
  -- are those of the stops of all seats, and the journal, of this shape, ends with these and the marks that were seen
  pub record IsClosed (G : Disks D) (b : Begun) (workers : ℕ) (all : ThreadResults T D H O P) (shape : Shape)
      (ran : Ran T D) : Type 0 where
    pub answers : ran.answers ≡ all.answers
    pub number : vec_len ran.answers ≡ workers
    pub changes : ran.changes ≡ sum_by changed_by (joined (map made_left all.lefts.items))
    pub ends : EndsUsing G b (map made_left all.lefts.items) ran.handles shape ran.disk ran.trail.items all.seen.stops
        all.seen.marks ran.in_log
    pub came : CameAbout G b (map made_left all.lefts.items) shape ran.disk ran.trail.items
