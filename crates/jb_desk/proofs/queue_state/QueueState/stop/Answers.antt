use Rattle.std.proofs.Common.{◌≡◌, ◌+◌, ◌∷◌, [], ◌++◌, length, rules, refl, ap, subst, ◌∙◌, arith, length-append}
use Rattle.std.specs.List.{sum_by}
use Rattle.std.proofs.lemmas.List.Sums.{sum_by_push}
use mathlib.Core.HLevel.{is_prop→PathP}
use native.Mathlib.Nat.{ℕ_set}
use Rattle.jb_handle.specs.Handle.{changes_of, holder}
use Rattle.jb_handle.specs.HeldChanges.{Held}
use Rattle.jb_handle.specs.Word.{WordMap}
use Rattle.jb_handle.specs.declared.handle.Handle.{Handle}
use Rattle.jb_book.specs.Account.{CanStop, changed_by, dropped_of, queued}
use Rattle.jb_book.specs.CallsToBook.{Registered}
use Rattle.jb_book.specs.Marks.{SeesStop}
use Rattle.jb_board.specs.declared.place.Place.{Ghosts as Places}
use Rattle.jb_book.specs.declared.origin.Origin.{Ghosts}
use Rattle.jb_desk.specs.declared.seat.Seat.{Seat}
use Rattle.jb_desk.proofs.queue_state.QueueState.stop.Goals as goal

-- seats with the same parts are the same
same-seat : {H : Type 0} {O : Ghosts H} {P : Places H} (s t : Seat H O P) → t.number ≡ s.number → t.board ≡ s.board → t.handles ≡ s.handles → t.made ≡ s.made → t ≡ s
same-seat s t number board handles made = λ i. record {
  number = number i;
  board = board i;
  handles = handles i;
  made = made i;
  part_of_handles = is_prop→PathP (λ j. (handles j).parts ≡ 1) (λ j. ℕ_set (handles j).parts 1) t.part_of_handles s.part_of_handles i;
  all_made = is_prop→PathP (λ j. length (made j) ≡ (handles j).amount) (λ j. ℕ_set (length (made j)) (handles j).amount) t.all_made s.all_made i;
}

-- so are handles
same-handle : {S : Type 0} (h k : Handle S) → holder h ≡ holder k → changes_of h ≡ changes_of k → h ≡ k
same-handle h k seat changes = λ i. record { seat = seat i; changes = changes i }

pub invariant_of-seat : goal.invariant_of-seat
invariant_of-seat g c =
    let seat = c.with_seat-seat.result.0 in
    let grown = ap length c.in-Ok.ensures.ok.made_one in
    let longer = length-append seat.made ((c.in-Ok.ticket, (changes_of c.with_seat-seat.result.1).words) ∷ []) in
    let counted = seat.all_made in
    record {
      part_of_handles = c.add.ensures.parts ∙ seat.part_of_handles;
      all_made = omega (arith, grown, longer, counted, c.add.ensures.amount);
    }

pub returns-in-Ok-clause-ok : goal.returns-in-Ok-clause-ok
returns-in-Ok-clause-ok g c =
    let took = c.with_seat-seat.ensures in
    let seat = c.with_seat-seat.result.0 in
    let book = c.args.self.now.register.book in
    let ticket = c.in-Ok.ticket in
    let words : (changes_of c.with_seat-seat.result.1).words ≡ (changes_of c.args.handle).words = ap (λ (h : Held). h.words) took.changes in
    let queues = c.in-Ok.ensures.ok in
    let made = queues.made_one ∙ ap (λ s. s.made ++ (ticket, (changes_of c.with_seat-seat.result.1).words) ∷ []) took.old ∙ ap (λ (w : WordMap). (holder c.args.handle).made ++ (ticket, w) ∷ []) words in
    record {
      same_number = ap (λ s. s.number) took.old;
      same_board = ap (λ s. s.board) took.old;
      could = subst (λ (w : WordMap). CanStop book seat.number w) words queues.could;
      queued_as = queues.queued_as ∙ ap (λ (w : WordMap). queued seat.number w book) words;
      next = queues.next;
      few = queues.few;
      counted = record {
        stopped = c.add.ensures.amount ∙ ap (λ s. s.handles.amount + 1) took.old;
        touched = ap (sum_by changed_by) made ∙ sum_by_push changed_by (holder c.args.handle).made (ticket, (changes_of c.args.handle).words);
        made = made;
      };
    }

pub returns-in-Ok-clause-sees : goal.returns-in-Ok-clause-sees
returns-in-Ok-clause-sees g c = subst (SeesStop c.args.seen.now.stops c.stop.new.prefix c.in-Ok.ticket) (ap (λ (h : Held). h.words) c.with_seat-seat.ensures.changes) c.in-Ok.ensures.sees

pub returns-in-Ok-clause-marks : goal.returns-in-Ok-clause-marks
returns-in-Ok-clause-marks g c = refl

pub returns-in-Err-default-Aborted-clause-blind : goal.returns-in-Err-default-Aborted-clause-blind
returns-in-Err-default-Aborted-clause-blind g c = c.in-Err-default-Aborted.ensures.err.2

pub returns-in-Err-default-Aborted-clause-marks : goal.returns-in-Err-default-Aborted-clause-marks
returns-in-Err-default-Aborted-clause-marks g c = refl

pub returns-in-Err-default-Aborted-clause-refused : goal.returns-in-Err-default-Aborted-clause-refused
returns-in-Err-default-Aborted-clause-refused g c = (
  search rules,
  same-seat c.with_seat-seat.result.0 _ refl refl refl c.in-Err-default-Aborted.ensures.err.1 ∙ c.with_seat-seat.ensures.old,
  c.drop_open.ensures.book ∙ ap (λ (r : Registered). dropped_of c.with_seat-seat.result.0.number r.book) c.in-Err-default-Aborted.ensures.err.0,
)

pub returns-in-Err-default-NotOpen-clause-blind : goal.returns-in-Err-default-NotOpen-clause-blind
returns-in-Err-default-NotOpen-clause-blind g c = c.in-Err-default-NotOpen.ensures.err.2

pub returns-in-Err-default-NotOpen-clause-marks : goal.returns-in-Err-default-NotOpen-clause-marks
returns-in-Err-default-NotOpen-clause-marks g c = refl

pub returns-in-Err-default-NotOpen-clause-refused : goal.returns-in-Err-default-NotOpen-clause-refused
returns-in-Err-default-NotOpen-clause-refused g c =
    let changes = c.with_seat-handle.ensures.changes ∙ ap (λ h. changes_of h) c.in-Err-default-NotOpen.ensures.back ∙ c.with_seat-seat.ensures.changes in (
      search rules,
      same-handle c.with_seat-handle.result.1 c.args.handle (c.with_seat-handle.ensures.seat ∙ same-seat c.with_seat-seat.result.0 _ refl refl refl c.in-Err-default-NotOpen.ensures.err.1 ∙ c.with_seat-seat.ensures.old) changes,
      ap (λ (r : Registered). r.book) c.in-Err-default-NotOpen.ensures.err.0,
    )

pub returns-in-Err-default-Memory-clause-blind : goal.returns-in-Err-default-Memory-clause-blind
returns-in-Err-default-Memory-clause-blind g c = c.in-Err-default-Memory.ensures.err.2

pub returns-in-Err-default-Memory-clause-marks : goal.returns-in-Err-default-Memory-clause-marks
returns-in-Err-default-Memory-clause-marks g c = refl

pub returns-in-Err-default-Memory-clause-refused : goal.returns-in-Err-default-Memory-clause-refused
returns-in-Err-default-Memory-clause-refused g c =
    let changes = c.with_seat-handle-in-Err-default-Memory.ensures.changes ∙ ap (λ h. changes_of h) c.in-Err-default-Memory.ensures.back ∙ c.with_seat-seat.ensures.changes in (
      search rules,
      same-handle c.with_seat-handle-in-Err-default-Memory.result.1 c.args.handle (c.with_seat-handle-in-Err-default-Memory.ensures.seat ∙ same-seat c.with_seat-seat.result.0 _ refl refl refl c.in-Err-default-Memory.ensures.err.1 ∙ c.with_seat-seat.ensures.old) changes,
      ap (λ (r : Registered). r.book) c.in-Err-default-Memory.ensures.err.0,
    )
