-- Each call leaves the account sound.
use Rattle.std.proofs.Common.{vec_len, vec_capacity, ◌≡◌, ℕ, ◌+◌, ◌≤◌, Bool, List, ◌∷◌, [], length, sum, Some, ap, le_refl, arith, ◌-◌, ◌^◌, ◌<◌, true, false, nat_lt, ◌++◌, drop, All, None, is_some, sym, refl, subst, ◌∙◌, IfSome, unwrap_or, nat_cmp, drop_of_length-le, sum_by}
use Rattle.std.proofs.lemmas.Map.Entries.{sum_by-remove_entry}
use Rattle.std.specs.Map.{lookup, remove_entry, values_of}
use Rattle.std.proofs.lemmas.Bool.Decides.{nat_tests}
use Rattle.std.proofs.lemmas.List.{length-append, length-drop, drop-append-le, drop-drop}
use Rattle.std.proofs.lemmas.List.Elements.{All-nil, All-push, All-drop}
use Rattle.std.proofs.lemmas.List.Sums.{sum_by-append, sum_by-take-drop}
use Rattle.std.proofs.lemmas.Map.Views.{All-values-insert_entry, All-map-remove_entry, IfSome-lookup_from_All}
use Rattle.std.proofs.Math.Seq.{drop-nil}
use Rattle.jb_handle.specs.declared.stopped.Stopped.{Stopped}
use Rattle.jb_handle.specs.HeldChanges.{Fits}
use Rattle.jb_handle.specs.Size.{IsWithinSize}
use Rattle.jb_handle.specs.Word.{WordMap}
use Rattle.jb_handle.proofs.Tickets.{tickets-append}
use Rattle.jb_cost.specs.Credits.{Covers}
use Rattle.jb_cost.proofs.WithinCredits.{covers-append, covers-weight}
use Rattle.jb_core.proofs.AcceptedEvents.{found-none, first-false, still-up}
use Rattle.jb_core.proofs.MapEntries.{sum-insert, sum-remove, length-insert_entry, length-remove_entry}
use Rattle.jb_deck.specs.declared.done.Entry.{Entry}
use Rattle.jb_book.specs.declared.fault.BeginFault.TheVariants.{Aborted, Closed, Busy, TooManyCredits, Full}
use Rattle.jb_book.specs.Account.{Account, InLine, IsAccountSound, IsLost, granted_to, dropped_of, queued, taken_all, settled_to, failed_of, has_no_room, begin_refusal, IsOpenFor, CanTake, Settles, touched_in}
use Rattle.jb_book.specs.Shadow.{credits_at, lost, reserved_in, settled_by, took}
use Rattle.jb_book.proofs.TrailEntries.{follow-length, follow-on}
use Rattle.std.specs.BTreeMap.{IsOrdered, is_at}
use Rattle.jb_deck.specs.Done.{Follow, least_after, start_of}
use Rattle.jb_book.specs.Book.{account_of, IsBookKept}
use Rattle.jb_book.specs.Origin.{AreStops, Begun}
use Rattle.jb_book.specs.declared.book.Book.TheInside.{Inside}
use Rattle.std.specs.FinMap as map

-- ---- the credits of the seats: without a seat, its credits are left over

module _ (es : List (ℕ × ℕ)) (seat : ℕ) where
  -- without a seat, its credits are left over
  pub sum-gone : (credits : ℕ) → lookup (is_at (nat_cmp seat)) es ≡ Some credits → sum (values_of (remove_entry (is_at (nat_cmp seat)) es)) + credits ≡ sum (values_of es)
  sum-gone credits there = sum-remove (λ (x : ℕ). x) (is_at (nat_cmp seat)) es credits there

  -- and no more than before
  pub sum-less : sum (values_of (remove_entry (is_at (nat_cmp seat)) es)) ≤ sum (values_of es)
  sum-less = let all = sum_by-remove_entry (λ (x : ℕ). x) (is_at (nat_cmp seat)) es in omega (arith, all)

-- nor is the list longer
pub length-less : (test : ℕ → Bool) (es : List (ℕ × ℕ)) → length (remove_entry test es) ≤ length es
length-less test [] = le_refl 0
length-less test (e ∷ es) = let rest = length-less test es in grind (arith, rest)

-- ---- the calls

-- what the five tests of a new handle let pass
pub passed : (a : Account) (seat credits : ℕ) → begin_refusal a seat credits ≡ None
    → (a.aborted ≡ false) × (a.shut ≡ false) × (credits_at a.shadow seat ≡ None) × (credits ≤ a.most) × (reserved_in a.shadow + credits ≤ a.usable) × (a.shadow.next + length a.shadow.seats < 2 ^ 61) × (a.granted + credits ≤ 2 ^ 61)
passed a seat credits none =
    let one = first-false a.aborted Aborted _ none in
    let two = first-false a.shut Closed _ one.1 in
    let three = first-false (is_some (credits_at a.shadow seat)) Busy _ two.1 in
    let four = first-false (nat_lt a.most credits) (TooManyCredits a.most) _ three.1 in
    let five = first-false (has_no_room a credits) (Full (reserved_in a.shadow)) [] four.1 in
    (one.0, two.0, found-none (credits_at a.shadow seat) three.0, grind (arith, nat_tests), grind (arith, nat_tests), grind (arith, nat_tests), grind (arith, nat_tests))

module _ (a : Account) (sound : IsAccountSound a) where
  -- with other seats it is sound where there is room for their credits and tickets
  seats-sound : (seats : List (ℕ × ℕ)) (granted : ℕ) → All (λ c. c ≤ a.most) (values_of seats) → sum (values_of seats) + sum a.shadow.credits ≤ a.usable → a.shadow.next + length seats ≤ 2 ^ 61 → a.changes + sum (values_of seats) ≤ granted → granted ≤ 2 ^ 61
      → IsAccountSound (record a { shadow = record a.shadow { seats = seats }; granted = granted })
  seats-sound seats granted few room tickets changed grants =
      let running : a.aborted ≡ false → InLine (record a.shadow { seats = seats }) = λ is. let line = sound.running is in assumption in
      let failed : a.aborted ≡ true → IsLost (record a.shadow { seats = seats }) = λ is. let over = sound.failed is in assumption in
      assumption

  pub begun-sound : (seat credits : ℕ) → begin_refusal a seat credits ≡ None → IsAccountSound (granted_to seat credits a)
  begun-sound seat credits none =
      let (running, open_yet, free, few, room, left, grants) = passed a seat credits none in
      let more = sum-insert (λ (x : ℕ). x) a.shadow.seats seat credits free in
      let longer = length-insert_entry a.shadow.seats seat credits in
      seats-sound (granted_to seat credits a).shadow.seats (a.granted + credits) (All-values-insert_entry nat_cmp seat credits (λ c. c ≤ a.most) a.shadow.seats sound.seats_few few)
      (omega (arith, more, room)) (omega (arith, longer, left)) (omega (arith, more)) grants

  pub dropped-sound : (seat : ℕ) → IsAccountSound (dropped_of seat a)
  dropped-sound seat =
      let less = sum-less a.shadow.seats seat in
      let shorter = length-less (is_at (nat_cmp seat)) a.shadow.seats in
      seats-sound (dropped_of seat a).shadow.seats a.granted (All-map-remove_entry (is_at (nat_cmp seat)) (λ (e : ℕ × ℕ). e.1) (λ c. c ≤ a.most) a.shadow.seats sound.seats_few)
      (omega arith) (omega arith) (omega arith) sound.granted

  pub queued-sound : (seat credits : ℕ) (words : WordMap) → a.aborted ≡ false → IsOpenFor a seat words credits → IsAccountSound (queued seat words a)
  queued-sound seat credits words running is =
      let stop : Stopped = record { ticket = a.shadow.next; words = words } in
      let line = sound.running running in
      let gone = sum-gone a.shadow.seats seat credits is.listed in
      let shorter = length-remove_entry (is_at (nat_cmp seat)) a.shadow.seats credits is.listed in
      let granted : unwrap_or (credits_at a.shadow seat) 0 ≡ credits = ap (λ found. unwrap_or found 0) is.listed in
      let few : credits ≤ a.most = subst (λ found. IfSome found (λ c. c ≤ a.most)) is.listed (IfSome-lookup_from_All (λ c. c ≤ a.most) (is_at (nat_cmp seat)) a.shadow.seats sound.seats_few) in
      let queue = length-append a.shadow.queue (stop ∷ []) in
      let all = length-append a.shadow.credits (unwrap_or (credits_at a.shadow seat) 0 ∷ []) in
      let sums = sum_by-append (λ (x : ℕ). x) a.shadow.credits (unwrap_or (credits_at a.shadow seat) 0 ∷ []) in
      let one : sum (unwrap_or (credits_at a.shadow seat) 0 ∷ []) ≡ unwrap_or (credits_at a.shadow seat) 0 = omega arith in
      let touches = sum_by-append (λ (h : Stopped). map.len h.words) a.shadow.queue (stop ∷ []) in
      let single : sum_by (λ (h : Stopped). map.len h.words) (stop ∷ []) ≡ map.len words = omega arith in
      record {
        most = sound.most;
        order = sound.order;
        within = omega arith;
        running = λ _. record {
          tickets = tickets-append a.shadow.taken a.shadow.queue (stop ∷ []) line.tickets (sym line.queued, tt);
          queued = omega arith;
          paired = omega arith;
          covered = subst (λ cs. Covers cs (a.shadow.queue ++ stop ∷ [])) (sym (drop-append-le (a.shadow.taken - a.shadow.settled) a.shadow.credits (unwrap_or (credits_at a.shadow seat) 0 ∷ []) (omega arith)))
              (covers-append (drop (a.shadow.taken - a.shadow.settled) a.shadow.credits) (unwrap_or (credits_at a.shadow seat) 0 ∷ []) a.shadow.queue (stop ∷ []) line.covered (omega (arith, granted), tt));
        };
        failed = still-up-not a.aborted running;
        seats_few = All-map-remove_entry (is_at (nat_cmp seat)) (λ (e : ℕ × ℕ). e.1) (λ c. c ≤ a.most) a.shadow.seats sound.seats_few;
        few = All-push (λ c. c ≤ a.most) a.shadow.credits (unwrap_or (credits_at a.shadow seat) 0) sound.few (omega (arith, granted, few));
        fits = All-push (λ h. Fits a.shape h.words) a.shadow.queue stop sound.fits is.fits;
        room = omega (arith, gone, sums, one, granted);
        small = sound.small;
        tickets = omega (arith, shorter);
        changed = omega (arith, gone);
        granted = sound.granted;
        counted = omega (arith, touches, single);
        trail = sound.trail;
      }
    where
      still-up-not : {A : Type 0} (b : Bool) → b ≡ false → b ≡ true → A
      still-up-not b lacks held = still-up b held lacks

  pub taken-sound : CanTake a → IsAccountSound (taken_all a)
  taken-sound can =
      let line = sound.running can.running in
      let none : drop (a.shadow.taken + length a.shadow.queue - a.shadow.settled) a.shadow.credits ≡ [] = drop_of_length-le a.shadow.credits (omega arith) in
      let ordered : a.shadow.settled ≤ a.shadow.taken + length a.shadow.queue = omega arith in
      let within : a.shadow.taken + length a.shadow.queue ≤ a.shadow.next = omega arith in
      let running : a.aborted ≡ false → InLine (took a.shadow) = λ _. record { tickets = tt; queued = omega arith; paired = line.paired; covered = subst (λ cs. Covers cs []) (sym none) tt } in
      let failed : a.aborted ≡ true → IsLost (took a.shadow) = λ is. still-up a.aborted is can.running in
      let counted : touched_in [] ≤ a.changes = omega arith in
      assumption (All-nil (λ (h : Stopped). Fits a.shape h.words))

  pub settled-sound : (past : ℕ) (entries : List Entry) → Settles a past entries → IsAccountSound (settled_to past entries a)
  settled-sound past entries is =
      let up = follow-length a.shadow.settled _ past entries is.follow in
      let there : past ≡ a.shadow.settled + (past - a.shadow.settled) = omega arith in
      let parts = sum_by-take-drop (λ (x : ℕ). x) a.shadow.credits (past - a.shadow.settled) in
      let ordered : a.shadow.settled + (past - a.shadow.settled) ≤ a.shadow.taken = omega arith in
      let running : a.aborted ≡ false → InLine (settled_by (past - a.shadow.settled) a.shadow) = λ run. (
      let line = sound.running run in
      let fewer = length-drop (past - a.shadow.settled) a.shadow.credits in
      record {
        tickets = line.tickets;
        queued = line.queued;
        paired = omega arith;
        covered = subst (λ cs. Covers cs a.shadow.queue) (ap (λ k. drop k a.shadow.credits) (let same : a.shadow.taken - a.shadow.settled ≡ (past - a.shadow.settled) + (a.shadow.taken - (a.shadow.settled + (past - a.shadow.settled))) = omega arith in same)
            ∙ sym (drop-drop (a.shadow.taken - (a.shadow.settled + (past - a.shadow.settled))) (past - a.shadow.settled) a.shadow.credits)) line.covered;
      }) in
      let failed : a.aborted ≡ true → IsLost (settled_by (past - a.shadow.settled) a.shadow) = λ fell. (
      let over = sound.failed fell in
      record { queue = over.queue; credits = ap (drop (past - a.shadow.settled)) over.credits ∙ drop-nil (past - a.shadow.settled); taken = omega arith }) in
      let room : reserved_in (settled_by (past - a.shadow.settled) a.shadow) ≤ a.usable = omega arith in
      assumption (
        All-drop (λ (c : ℕ). c ≤ a.most) (past - a.shadow.settled) a.shadow.credits sound.few,
        subst (λ p. Follow (start_of (a.trail ++ entries)) 0 p (a.trail ++ entries)) there (follow-on a.shadow.settled past a.trail entries sound.trail is.follow),
      )

  -- the account with what is settled so
  pub settled-is : (past : ℕ) (entries : List Entry) (credits : List ℕ) (trail : List Entry) → a.shadow.settled ≤ past → credits ≡ drop (past - a.shadow.settled) a.shadow.credits → trail ≡ a.trail ++ entries
      → record a { shadow = record a.shadow { settled = past; credits = credits }; trail = trail } ≡ settled_to past entries a
  settled-is past entries credits trail up left more =
      let upto : past ≡ a.shadow.settled + (past - a.shadow.settled) = omega arith in
      λ i. record a { shadow = record a.shadow { settled = upto i; credits = left i }; trail = more i }

  pub failed-sound : IsAccountSound (failed_of a)
  failed-sound =
      let ordered : a.shadow.settled ≤ a.shadow.settled = omega arith in
      let inside : a.shadow.settled ≤ a.shadow.next = omega arith in
      let running : true ≡ false → InLine (lost a.shadow) = λ is. still-up true refl is in
      let room : sum (values_of a.shadow.seats) + sum [] ≤ a.usable = omega arith in
      let counted : touched_in [] ≤ a.changes = omega arith in
      assumption (All-nil (λ (c : ℕ). c ≤ a.most), All-nil (λ (h : Stopped). Fits a.shape h.words))

  pub shut-sound : IsAccountSound (record a { shut = true })
  shut-sound = assumption

  -- the planner takes any queue of a book
  pub queue-size : a.aborted ≡ false → IsWithinSize a.shadow.queue
  queue-size running =
      let line = sound.running running in
      let all = covers-weight (drop (a.shadow.taken - a.shadow.settled) a.shadow.credits) a.shadow.queue line.covered in
      let parts = sum_by-take-drop (λ (x : ℕ). x) a.shadow.credits (a.shadow.taken - a.shadow.settled) in
      omega arith

-- ---- how a book is kept, said of the account that it stands for

pub kept-by : {H : Type 0} (begun : Begun) (t : Inside H) (a : Account) → account_of t ≡ a → IsAccountSound a → t.open_sum ≡ sum (values_of a.shadow.seats) → t.line_sum ≡ sum a.shadow.credits → t.least ≡ least_after 0 a.trail → t.least ≤ 2 ^ 32
    → vec_len t.trail + (t.next - t.settled) ≤ vec_capacity t.trail → IsOrdered nat_cmp t.seats → AreStops begun a.shadow.queue → IsBookKept begun t
kept-by begun t a is sound open_sum line_sum least narrow room ordered stops = record {
  sound = subst IsAccountSound (sym is) sound;
  open_sum = open_sum ∙ ap (λ (b : Account). sum (values_of b.shadow.seats)) (sym is);
  line_sum = line_sum ∙ ap (λ (b : Account). sum b.shadow.credits) (sym is);
  least = least ∙ ap (λ (b : Account). least_after 0 b.trail) (sym is);
  narrow = narrow;
  room = room;
  ordered = ordered;
  stops = subst (λ (b : Account). AreStops begun b.shadow.queue) (sym is) stops;
}

-- one more handle stops with such words
pub stops-more : (begun : Begun) (queue : List Stopped) (next : ℕ) (words : WordMap) → AreStops begun queue → begun.stops words → AreStops begun (queue ++ record { ticket = next; words = words } ∷ [])
stops-more begun queue next words all one = All-push (λ h. begun.stops h.words) queue (record { ticket = next; words = words }) all one
