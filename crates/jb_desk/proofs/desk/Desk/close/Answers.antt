use Rattle.std.proofs.lemmas.Result.{IfOk-weaker}
use Rattle.std.proofs.Common.{ℕ, List, Result, Ok, Err, IfErr}
use Rattle.std.specs.Global.{Vec}
use Rattle.jb_handle.specs.Word.{WordMap}
use Rattle.jb_handle.specs.declared.shape.Shape.{Shape}
use Rattle.jb_deck.specs.Deck.{OpenDeck}
use Rattle.jb_deck.specs.declared.done.Entry.{Entry}
use Rattle.jb_book.specs.History.{IsStop}
use Rattle.jb_book.specs.Origin.{Begun}
use Rattle.jb_book.specs.Since.{EndsSince, may_stop}
use Rattle.jb_book.specs.SinceMark.{EndsMarked}
use Rattle.jb_book.proofs.SinceNoHandles.{is-weaker}
use Rattle.jb_desk.specs.Close.{DiffersAs, IsNotClosed}
use Rattle.jb_book.specs.JournalValue.{JournalAndClock}
use Rattle.jb_desk.specs.declared.queue_state.QueueState.{QueueState}
use Rattle.jb_desk.specs.declared.desk.Desk.{Desk}
use Rattle.jb_desk.specs.declared.desk.closing.CloseFault.{CloseFault}
use Rattle.jb_desk.specs.declared.desk.closing.CloseFault.TheVariants.{SeatsOut, TrailsDiffer}
use Rattle.jb_desk.specs.declared.desk.closing.Closed.{Closed}
use Rattle.jb_disk.specs.declared.disk.Disk.{Ghosts as Disks}
use Rattle.jb_book.specs.declared.sights.Sights.{Sights}
use Rattle.jb_book.specs.declared.origin.Origin.{Ghosts}
use Rattle.jb_board.specs.declared.place.Place.{Ghosts as Places}
use Rattle.jb_desk.specs.declared.seat.Left.{Left}
use Rattle.jb_desk.proofs.desk.Desk.close.Goals as goal

-- a journal that was given the first handles of a history was given handles with words that a handle may stop with
ends-since : {D : Type 0} (G : Disks D) (b : Begun) (stops : List (List (ℕ × WordMap))) (handles : ℕ) (shape : Shape) (disk : D) (trail : List Entry) (known : List WordMap) (marks : List (OpenDeck D))
    → EndsMarked G b stops handles shape disk trail known marks → EndsSince G b disk trail
ends-since G b stops handles shape disk trail known marks marked =
    let ends = marked.ends in
    record { deck = ends.deck; same_disk = ends.same_disk; same_trail = ends.same_trail; since = is-weaker G b (IsStop b ends.log) (may_stop b) (λ h s. s.0) ends.deck ends.since }

not-closed : {D C H : Type 0} {Q : Disks D} {O : Ghosts H} {P : Places H} (G : Disks D) (b : Begun) (queue : QueueState D H Q O P) (journal : JournalAndClock D C) (desk : Desk D C H Q O P) (lefts : Vec (Left H O P)) (seen : Sights D H) (r : Result (Closed D C) (CloseFault D C H Q O P)) → IfErr r (DiffersAs G b queue journal seen) → IfErr r (IsNotClosed G b desk lefts seen)
not-closed G b queue journal desk lefts seen (Ok closed) is = tt
not-closed G b queue journal desk lefts seen (Err (SeatsOut back kept sights)) is = absurd is
not-closed G b queue journal desk lefts seen (Err (TrailsDiffer deck clock book)) is = (is.3, is.4)

pub returns-clause-sums : goal.returns-clause-sums
returns-clause-sums g c = c.close_parts.ensures.sums

pub returns-clause-since : goal.returns-clause-since
returns-clause-since g c = IfOk-weaker c.close_parts.result _ _ (λ closed ends. ends-since g.D.Disk g.H.Origin.begun _ _ _ _ _ _ _ ends.marked) c.close_parts.ensures.stops

pub returns-clause-refused : goal.returns-clause-refused
returns-clause-refused g c = not-closed g.D.Disk g.H.Origin.begun c.into_inner-queue.result c.into_inner.result c.args.self c.args.lefts c.args.seen c.close_parts.result c.close_parts.ensures.refused
