use Rattle.std.proofs.Common.{rules, ℕ, All, ◌≡◌, ◌⊎◌, ◌<◌, ◌≤◌, List, Option, Some, None, Ok, Err, Result, OnOk, IfErr, inl, inr, length, refl, ap, sym, subst, ◌∙◌, arith}
use Rattle.jb_handle.specs.Word.{WordMap}
use Rattle.jb_plan.specs.Batch.{Gathered}
use Rattle.jb_plan.specs.Prepare.{Planned}
use Rattle.jb_disk.specs.declared.disk.Disk.{Ghosts as Disks}
use Rattle.jb_board.specs.Steps.{raised_settled}
use Rattle.jb_board.specs.declared.front.Front.{Front}
use Rattle.jb_deck.specs.declared.batched.BatchFault.{BatchFault}
use Rattle.jb_deck.specs.declared.batched.BatchFault.TheVariants.{DeviceFault, WrongTicket, OtherShape, NumbersSpent}
use Rattle.jb_deck.specs.declared.done.Done.{Done}
use Rattle.jb_deck.specs.Done.{entries_of, first_ticket, past_after}
use Rattle.jb_book.specs.Journal.{EndsRound}
use Rattle.jb_book.specs.CallsToBook.{IsInHistory}
use Rattle.jb_book.specs.Origin.{Begun}
use Rattle.jb_book.specs.Rounds.{CommitsAs, end_of}
use Rattle.jb_book.specs.SinceMark.{MarksSettled}
use Rattle.jb_book.specs.MachineTie.{TellsFirst}
use Rattle.jb_desk.specs.Journal.{CommitsRound}
use Rattle.jb_desk.specs.BatchOut.{IsOut}
use Rattle.jb_desk.specs.Rounds.{AnswersRound, seat_of}
use Rattle.jb_desk.specs.Seats.{view_of}
use Rattle.jb_desk.specs.Views.{SeesCommit}
use Rattle.jb_board.specs.declared.place.Place.{Ghosts as Places}
use Rattle.jb_book.specs.declared.origin.Origin.{Ghosts}
use Rattle.jb_desk.specs.declared.seat.Seat.{Seat}
use Rattle.jb_desk.specs.declared.committer.Round.{Round}
use Rattle.jb_desk.specs.declared.committer.Round.TheVariants.{Committed}
use Rattle.jb_desk.specs.declared.committer.RoundFault.{RoundFault}
use Rattle.jb_desk.specs.declared.queue_state.aborted.HasAborted.{HasAborted}
use Rattle.jb_desk.specs.declared.queue_state.batch_out.OutstandingBatch.{OutstandingBatch}
use Rattle.jb_desk.specs.declared.committer.RoundFault.TheVariants as round
use Rattle.jb_desk.proofs.SettledBatch.{settles-whole, whole-past}
use Rattle.jb_desk.proofs.RoundCounts.{keeps-same, settled-by}
use Rattle.jb_desk.proofs.desk.Desk.commit.Given.{Over}
use Rattle.jb_desk.proofs.desk.Desk.commit.Goals.{After-settled, After-settle_last}
use Rattle.jb_desk.proofs.desk.Desk.commit.Goals as goal

-- a batch that is handed back as it was is out as it was
out-on : {b : Begun} {batch back : Gathered} {given : ℕ} {prefix seen : List WordMap} {out : OutstandingBatch} → back ≡ batch → seen ≡ prefix → IsOut b batch given prefix out → IsOut b back given seen out
out-on {b} {given = given} {out = out} same kept is = subst (λ (x : Gathered × List WordMap). IsOut b x.0 given x.1 out) (λ i. (sym same i, sym kept i)) is

-- what is told of a commit is told of its fault
falls : {r : Result Done BatchFault} {found fault : BatchFault} → r ≡ Err found → found ≡ fault → (Told : Result Done BatchFault → Type 0) → Told r → Told (Err fault)
falls fails is Told told = subst (λ (f : BatchFault). Told (Err f)) is (subst Told fails told)

-- what a round has done that ends so
record Ends {D : Type 0} (G : Disks D) (b : Begun) (p : Planned) (after : Option Gathered) (old new : Front) (r : Result Round RoundFault) : Type 0 where
  answers : AnswersRound (Some p.batch) after new.settled r
  view : SeesCommit p.batch old new r
  round : CommitsRound G b 0 (Some p.batch) after new.settled r

module _ {D H : Type 0} (G : Disks D) {O : Ghosts H} {P : Places H} (b : Begun) (p : Planned) (done : Done) (after : Option Gathered) (old new : Seat H O P) (free : after ≡ None) (some : 0 < length p.batch.handles) where
  -- the batch is committed: it is settled whole, unless the book has failed
  settled-whole : (settled : Result Unit RoundFault) (r : Result Round RoundFault) → CommitsAs p (Ok done) → EndsRound G b p (Ok done)
      → OnOk settled (r ≡ Ok (Committed done)) → IfErr settled (λ fault. r ≡ Err fault)
      → OnOk settled (view_of new ≡ raised_settled (view_of old) (past_after (first_ticket done) (entries_of done))) → IfErr settled (λ fault. (at : HasAborted) × (fault ≡ round.Aborted at) × (new ≡ old))
      → Ends G b p after (view_of old) (view_of new) r
  settled-whole (Ok u) r told ends is _ raised _ = subst (Ends G b p after (view_of old) (view_of new)) (sym is) (record {
    answers = (free, settles-whole p done (view_of new).settled some told (settled-by (view_of old) (view_of new) _ raised));
    view = raised ∙ ap (raised_settled (view_of old)) (whole-past p done told);
    round = (p, record { next = refl; some = some }, ends);
  })
  settled-whole (Err fault) r told ends _ is _ failed = subst (Ends G b p after (view_of old) (view_of new)) (sym (is ∙ ap (λ (f : RoundFault). Err f) failed.1)) (record {
    answers = free;
    view = ap (λ s. view_of s) failed.2;
    round = tt;
  })

  -- a first part of it is committed before a failure: this is settled, unless the book has failed
  settled-last : (fault : RoundFault) → CommitsAs p (Err (DeviceFault done)) → EndsRound G b p (Err (DeviceFault done))
      → (at : HasAborted) × (((fault ≡ round.DeviceFault at) × (view_of new ≡ raised_settled (view_of old) (past_after (first_ticket done) (entries_of done)))) ⊎ ((fault ≡ round.Aborted at) × (new ≡ old)))
      → Ends G b p after (view_of old) (view_of new) (Err fault)
  settled-last fault told ends (at, inl (is, raised)) = subst (λ (f : RoundFault). Ends G b p after (view_of old) (view_of new) (Err f)) (sym is) (record {
    answers = free;
    view = (
      past_after (first_ticket done) (entries_of done),
      subst (λ f. p.batch.first ≤ past_after f (entries_of done)) (sym told.0) told.1,
      subst (λ f. past_after f (entries_of done) < end_of p.batch) (sym told.0) told.2,
      raised,
    );
    round = (p, done, record { next = refl; some = some }, ends, settled-by (view_of old) (view_of new) _ raised);
  })
  settled-last fault told ends (at, inr (is, same)) = subst (λ (f : RoundFault). Ends G b p after (view_of old) (view_of new) (Err f)) (sym is) (record {
    answers = free;
    view = ap (λ s. view_of s) same;
    round = tt;
  })

pub commit-result-requires-clause-stops : goal.commit-result-requires-clause-stops
commit-result-requires-clause-stops g c = c.requires.out.stops

pub commit-result-requires-clause-history : goal.commit-result-requires-clause-history
commit-result-requires-clause-history g c = c.requires.out.recorded

-- ---- the batch is committed

pub settle-settled-requires-clause-desk : goal.settle-settled-requires-clause-desk
settle-settled-requires-clause-desk g c = c.requires.desk

pub settle-settled-requires-clause-settling : goal.settle-settled-requires-clause-settling
settle-settled-requires-clause-settling g c =
    let p = c.args.prepared in
    let told = subst (CommitsAs p) c.in-Ok.is c.commit-result.ensures.tells.0 in
    record {
      planned = p;
      is = c.groups-groups.ensures.least;
      shape_is = c.requires.out.shape_is;
      tickets = c.commit-result.ensures.tells.2;
      recorded = subst (λ (l : List WordMap). All (IsInHistory l) p.batch.handles) (sym c.commit-result.ensures.stops) c.requires.out.recorded;
      first = told.0;
      past = sym c.requires.out.end_is;
      tells = subst (TellsFirst p) c.in-Ok.is c.commit-result.ensures.tells.1;
    }

pub settle-settled-requires-clause-first : goal.settle-settled-requires-clause-first
settle-settled-requires-clause-first g c = (subst (CommitsAs c.args.prepared) c.in-Ok.is c.commit-result.ensures.tells.0).0 ∙ c.requires.out.first_is

pub settle-settled-requires-clause-marked : goal.settle-settled-requires-clause-marked
settle-settled-requires-clause-marked g c = subst (MarksSettled c.commit-result.result.1.marks) c.in-Ok.is c.commit-result.ensures.marked

pub settle-settled-requires-clause-taken : goal.settle-settled-requires-clause-taken
settle-settled-requires-clause-taken g c =
    let p = c.args.prepared in
    let told = subst (CommitsAs p) c.in-Ok.is c.commit-result.ensures.tells.0 in
    let past = whole-past p c.in-Ok.done told in
    let taken = c.requires.taken in
    omega (arith, past, taken)

whole : (g : Over) (c : After-settled g) → Ends g.D.Disk g.H.Origin.begun c.args.prepared c.args.committer.now.batch (view_of (seat_of c.args.committer.now)) (view_of c.settle-settled.new.seat) c.settled.result
whole g c =
    let p = c.args.prepared in
    settled-whole g.D.Disk g.H.Origin.begun p c.in-Ok.done _ (seat_of c.args.committer.now) c.settle-settled.new.seat c.requires.free c.requires.out.some c.settle-settled.result c.settled.result
    (subst (CommitsAs p) c.in-Ok.is c.commit-result.ensures.tells.0) (subst (EndsRound g.D.Disk g.H.Origin.begun p) c.in-Ok.is c.commit-result.ensures.round)
    c.settled.ensures.ok c.settled.ensures.err c.settle-settled.ensures.view c.settle-settled.ensures.failed

pub returns-in-Ok-clause-seat : goal.returns-in-Ok-clause-seat
returns-in-Ok-clause-seat g c = c.settle-settled.ensures.seat

pub returns-in-Ok-clause-answers : goal.returns-in-Ok-clause-answers
returns-in-Ok-clause-answers g c = (whole g (goal.at.returns-in-Ok-clause-answers g c).After-settled).answers

pub returns-in-Ok-clause-view : goal.returns-in-Ok-clause-view
returns-in-Ok-clause-view g c = (whole g (goal.at.returns-in-Ok-clause-view g c).After-settled).view

pub returns-in-Ok-clause-round : goal.returns-in-Ok-clause-round
returns-in-Ok-clause-round g c = (whole g (goal.at.returns-in-Ok-clause-round g c).After-settled).round

-- ---- a call of the disk failed

pub settle_last-requires-clause-desk : goal.settle_last-requires-clause-desk
settle_last-requires-clause-desk g c = c.requires.desk

pub settle_last-requires-clause-settling : goal.settle_last-requires-clause-settling
settle_last-requires-clause-settling g c =
    let p = c.args.prepared in
    record {
      planned = p;
      is = c.groups-groups.ensures.least;
      shape_is = c.requires.out.shape_is;
      tickets = c.commit-result.ensures.tells.2;
      recorded = subst (λ (l : List WordMap). All (IsInHistory l) p.batch.handles) (sym c.commit-result.ensures.stops) c.requires.out.recorded;
      first = (falls c.in-Err-DeviceFault.is c.in-Err-DeviceFault.field-0-is (CommitsAs p) c.commit-result.ensures.tells.0).0;
      past = sym c.requires.out.end_is;
      tells = falls c.in-Err-DeviceFault.is c.in-Err-DeviceFault.field-0-is (TellsFirst p) c.commit-result.ensures.tells.1;
    }

pub settle_last-requires-clause-first : goal.settle_last-requires-clause-first
settle_last-requires-clause-first g c = (falls c.in-Err-DeviceFault.is c.in-Err-DeviceFault.field-0-is (CommitsAs c.args.prepared) c.commit-result.ensures.tells.0).0 ∙ c.requires.out.first_is

pub settle_last-requires-clause-marked : goal.settle_last-requires-clause-marked
settle_last-requires-clause-marked g c = (falls c.in-Err-DeviceFault.is c.in-Err-DeviceFault.field-0-is (MarksSettled c.commit-result.result.1.marks) c.commit-result.ensures.marked).0

pub settle_last-requires-clause-failed : goal.settle_last-requires-clause-failed
settle_last-requires-clause-failed g c = (falls c.in-Err-DeviceFault.is c.in-Err-DeviceFault.field-0-is (MarksSettled c.commit-result.result.1.marks) c.commit-result.ensures.marked).1

pub settle_last-requires-clause-taken : goal.settle_last-requires-clause-taken
settle_last-requires-clause-taken g c =
    let told = falls c.in-Err-DeviceFault.is c.in-Err-DeviceFault.field-0-is (CommitsAs c.args.prepared) c.commit-result.ensures.tells.0 in
    let part = told.2 in
    let taken = c.requires.taken in
    subst (λ f. past_after f (entries_of c.in-Err-DeviceFault.settled) ≤ (view_of (seat_of c.args.committer.now)).taken) (sym told.0) (omega (arith, part, taken))

last : (g : Over) (c : After-settle_last g) → Ends g.D.Disk g.H.Origin.begun c.args.prepared c.args.committer.now.batch (view_of (seat_of c.args.committer.now)) (view_of c.settle_last.new.seat) (Err c.settle_last.result)
last g c =
    let p = c.args.prepared in
    settled-last g.D.Disk g.H.Origin.begun p c.in-Err-DeviceFault.settled _ (seat_of c.args.committer.now) c.settle_last.new.seat c.requires.free c.requires.out.some c.settle_last.result
    (falls c.in-Err-DeviceFault.is c.in-Err-DeviceFault.field-0-is (CommitsAs p) c.commit-result.ensures.tells.0) (falls c.in-Err-DeviceFault.is c.in-Err-DeviceFault.field-0-is (EndsRound g.D.Disk g.H.Origin.begun p) c.commit-result.ensures.round) c.settle_last.ensures.view

pub returns-in-Err-DeviceFault-clause-seat : goal.returns-in-Err-DeviceFault-clause-seat
returns-in-Err-DeviceFault-clause-seat g c = c.settle_last.ensures.seat

pub returns-in-Err-DeviceFault-clause-answers : goal.returns-in-Err-DeviceFault-clause-answers
returns-in-Err-DeviceFault-clause-answers g c = (last g (goal.at.returns-in-Err-DeviceFault-clause-answers g c).After-settle_last).answers

pub returns-in-Err-DeviceFault-clause-view : goal.returns-in-Err-DeviceFault-clause-view
returns-in-Err-DeviceFault-clause-view g c = (last g (goal.at.returns-in-Err-DeviceFault-clause-view g c).After-settle_last).view

pub returns-in-Err-DeviceFault-clause-round : goal.returns-in-Err-DeviceFault-clause-round
returns-in-Err-DeviceFault-clause-round g c = (last g (goal.at.returns-in-Err-DeviceFault-clause-round g c).After-settle_last).round

-- ---- the journal has failed before

pub returns-in-Err-Aborted-clause-seat : goal.returns-in-Err-Aborted-clause-seat
returns-in-Err-Aborted-clause-seat g c = keeps-same _ _ refl

pub returns-in-Err-Aborted-clause-answers : goal.returns-in-Err-Aborted-clause-answers
returns-in-Err-Aborted-clause-answers g c = c.requires.free

pub returns-in-Err-Aborted-clause-view : goal.returns-in-Err-Aborted-clause-view
returns-in-Err-Aborted-clause-view g c = refl

pub returns-in-Err-Aborted-clause-round : goal.returns-in-Err-Aborted-clause-round
returns-in-Err-Aborted-clause-round g c = tt

-- ---- the batch is held again: there was no memory, or the journal does not take it

pub hold_again-requires-clause-out : goal.hold_again-requires-clause-out
hold_again-requires-clause-out g c = out-on (ap (λ (x : Planned). x.batch) (falls c.in-Err-Memory.is c.in-Err-Memory.field-0-is (CommitsAs c.args.prepared) c.commit-result.ensures.tells.0)) c.commit-result.ensures.stops c.requires.out

pub returns-in-Err-Memory-clause-seat : goal.returns-in-Err-Memory-clause-seat
returns-in-Err-Memory-clause-seat g c = keeps-same _ _ c.hold_again.ensures.0

pub returns-in-Err-Memory-clause-answers : goal.returns-in-Err-Memory-clause-answers
returns-in-Err-Memory-clause-answers g c = c.hold_again.ensures.1 ∙ ap (λ (x : Planned). Some x.batch) (falls c.in-Err-Memory.is c.in-Err-Memory.field-0-is (CommitsAs c.args.prepared) c.commit-result.ensures.tells.0)

pub returns-in-Err-Memory-clause-view : goal.returns-in-Err-Memory-clause-view
returns-in-Err-Memory-clause-view g c = ap (λ s. view_of s) c.hold_again.ensures.0

pub returns-in-Err-Memory-clause-round : goal.returns-in-Err-Memory-clause-round
returns-in-Err-Memory-clause-round g c = tt

pub hold_again-requires-in-Err-WrongTicket-clause-out : goal.hold_again-requires-in-Err-WrongTicket-clause-out
hold_again-requires-in-Err-WrongTicket-clause-out g c = out-on (ap (λ (x : Planned). x.batch) (falls c.in-Err-WrongTicket.is c.in-Err-WrongTicket.field-0-is (CommitsAs c.args.prepared) c.commit-result.ensures.tells.0)) c.commit-result.ensures.stops c.requires.out

pub returns-in-Err-WrongTicket-clause-seat : goal.returns-in-Err-WrongTicket-clause-seat
returns-in-Err-WrongTicket-clause-seat g c = keeps-same _ _ c.hold_again-in-Err-WrongTicket.ensures.0

pub returns-in-Err-WrongTicket-clause-answers : goal.returns-in-Err-WrongTicket-clause-answers
returns-in-Err-WrongTicket-clause-answers g c = c.hold_again-in-Err-WrongTicket.ensures.1 ∙ ap (λ (x : Planned). Some x.batch) (falls c.in-Err-WrongTicket.is c.in-Err-WrongTicket.field-0-is (CommitsAs c.args.prepared) c.commit-result.ensures.tells.0)

pub returns-in-Err-WrongTicket-clause-view : goal.returns-in-Err-WrongTicket-clause-view
returns-in-Err-WrongTicket-clause-view g c = ap (λ s. view_of s) c.hold_again-in-Err-WrongTicket.ensures.0

pub returns-in-Err-WrongTicket-clause-round : goal.returns-in-Err-WrongTicket-clause-round
returns-in-Err-WrongTicket-clause-round g c =
    let again = c.hold_again-in-Err-WrongTicket.ensures.1 ∙ ap (λ (x : Planned). Some x.batch) (falls c.in-Err-WrongTicket.is c.in-Err-WrongTicket.field-0-is (CommitsAs c.args.prepared) c.commit-result.ensures.tells.0) in
    (c.args.prepared, WrongTicket c.in-Err-WrongTicket.prepared c.in-Err-WrongTicket.field-0-1, record { next = refl; some = c.requires.out.some }, again, falls c.in-Err-WrongTicket.is c.in-Err-WrongTicket.field-0-is (EndsRound g.D.Disk g.H.Origin.begun c.args.prepared) c.commit-result.ensures.round)

pub hold_again-requires-in-Err-OtherShape-clause-out : goal.hold_again-requires-in-Err-OtherShape-clause-out
hold_again-requires-in-Err-OtherShape-clause-out g c = out-on (ap (λ (x : Planned). x.batch) (falls c.in-Err-OtherShape.is c.in-Err-OtherShape.field-0-is (CommitsAs c.args.prepared) c.commit-result.ensures.tells.0)) c.commit-result.ensures.stops c.requires.out

pub returns-in-Err-OtherShape-clause-seat : goal.returns-in-Err-OtherShape-clause-seat
returns-in-Err-OtherShape-clause-seat g c = keeps-same _ _ c.hold_again-in-Err-OtherShape.ensures.0

pub returns-in-Err-OtherShape-clause-answers : goal.returns-in-Err-OtherShape-clause-answers
returns-in-Err-OtherShape-clause-answers g c = c.hold_again-in-Err-OtherShape.ensures.1 ∙ ap (λ (x : Planned). Some x.batch) (falls c.in-Err-OtherShape.is c.in-Err-OtherShape.field-0-is (CommitsAs c.args.prepared) c.commit-result.ensures.tells.0)

pub returns-in-Err-OtherShape-clause-view : goal.returns-in-Err-OtherShape-clause-view
returns-in-Err-OtherShape-clause-view g c = ap (λ s. view_of s) c.hold_again-in-Err-OtherShape.ensures.0

pub returns-in-Err-OtherShape-clause-round : goal.returns-in-Err-OtherShape-clause-round
returns-in-Err-OtherShape-clause-round g c =
    let again = c.hold_again-in-Err-OtherShape.ensures.1 ∙ ap (λ (x : Planned). Some x.batch) (falls c.in-Err-OtherShape.is c.in-Err-OtherShape.field-0-is (CommitsAs c.args.prepared) c.commit-result.ensures.tells.0) in
    (c.args.prepared, OtherShape c.in-Err-OtherShape.prepared, record { next = refl; some = c.requires.out.some }, again, falls c.in-Err-OtherShape.is c.in-Err-OtherShape.field-0-is (EndsRound g.D.Disk g.H.Origin.begun c.args.prepared) c.commit-result.ensures.round)

pub hold_again-requires-in-Err-NumbersSpent-clause-out : goal.hold_again-requires-in-Err-NumbersSpent-clause-out
hold_again-requires-in-Err-NumbersSpent-clause-out g c = out-on (ap (λ (x : Planned). x.batch) (falls c.in-Err-NumbersSpent.is c.in-Err-NumbersSpent.field-0-is (CommitsAs c.args.prepared) c.commit-result.ensures.tells.0)) c.commit-result.ensures.stops c.requires.out

pub returns-in-Err-NumbersSpent-clause-seat : goal.returns-in-Err-NumbersSpent-clause-seat
returns-in-Err-NumbersSpent-clause-seat g c = keeps-same _ _ c.hold_again-in-Err-NumbersSpent.ensures.0

pub returns-in-Err-NumbersSpent-clause-answers : goal.returns-in-Err-NumbersSpent-clause-answers
returns-in-Err-NumbersSpent-clause-answers g c = c.hold_again-in-Err-NumbersSpent.ensures.1 ∙ ap (λ (x : Planned). Some x.batch) (falls c.in-Err-NumbersSpent.is c.in-Err-NumbersSpent.field-0-is (CommitsAs c.args.prepared) c.commit-result.ensures.tells.0)

pub returns-in-Err-NumbersSpent-clause-view : goal.returns-in-Err-NumbersSpent-clause-view
returns-in-Err-NumbersSpent-clause-view g c = ap (λ s. view_of s) c.hold_again-in-Err-NumbersSpent.ensures.0

pub returns-in-Err-NumbersSpent-clause-round : goal.returns-in-Err-NumbersSpent-clause-round
returns-in-Err-NumbersSpent-clause-round g c =
    let again = c.hold_again-in-Err-NumbersSpent.ensures.1 ∙ ap (λ (x : Planned). Some x.batch) (falls c.in-Err-NumbersSpent.is c.in-Err-NumbersSpent.field-0-is (CommitsAs c.args.prepared) c.commit-result.ensures.tells.0) in
    (c.args.prepared, NumbersSpent c.in-Err-NumbersSpent.prepared, record { next = refl; some = c.requires.out.some }, again, falls c.in-Err-NumbersSpent.is c.in-Err-NumbersSpent.field-0-is (EndsRound g.D.Disk g.H.Origin.begun c.args.prepared) c.commit-result.ensures.round)
