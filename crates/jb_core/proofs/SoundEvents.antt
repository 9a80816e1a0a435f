-- Each event leaves the machine sound.
use Rattle.std.proofs.Common.{◌≡◌, ℕ, ◌+◌, [], ◌∷◌, take, sum, Some, None, ap, arith, ◌^◌, ◌<◌, ◌≤◌, true, false, nat_lt, nat_le, List, ◌++◌, length, drop, is_some, is_none, All, IfSome, sym, refl, subst, ◌∙◌, le_refl, sum_by, nat_cmp, length-append, append_assoc, append-nil}
use Rattle.std.proofs.lemmas.List.Sums.{sum_by-append, sum_by-take-drop}
use Rattle.std.proofs.lemmas.Map.Entries.{sum_by-set_value}
use Rattle.std.specs.BTreeMap.{is_at}
use Rattle.std.specs.Map.{set_value, remove_entry, values_of}
use Rattle.std.proofs.lemmas.Bool.{or_parts}
use Rattle.std.proofs.lemmas.Bool.Decides.{nat_tests}
use Rattle.std.proofs.lemmas.List.Elements.{All-nil, All-push, All-drop}
use Rattle.std.proofs.Math.Seq.{drop-length}
use Rattle.std.proofs.lemmas.Map.{length-set_value}
use Rattle.std.proofs.lemmas.Map.Views.{All-values-insert_entry, All-values-set_value, All-map-remove_entry, IfSome-lookup_from_All}
use Rattle.jb_handle.specs.HeldChanges.{Held, held, home_of, word_of, Fits}
use Rattle.jb_core.specs.declared.event.Event.TheVariants.{Open, Stop, Settle, Touch, Abandon, Checkpoint, Crash, Restart}
use Rattle.jb_core.specs.Line.{count}
use Rattle.jb_core.specs.Machine.{Machine, handle_at, held_at, reserved, after_event, is_full, refusal_up, stopped_at, after_take}
use Rattle.jb_handle.specs.declared.op.Op.{Op}
use Rattle.jb_handle.specs.Tickets.{TicketsFrom}
use Rattle.jb_handle.proofs.AdmittedChange.{kept-new, word-kept, passed}
use Rattle.jb_handle.proofs.Tickets.{tickets-append, tickets-first}
use Rattle.jb_cost.specs.Cut.{IsCut}
use Rattle.jb_cost.specs.Credits.{Covers}
use Rattle.jb_cost.specs.Pieces.{joined, pieces}
use Rattle.jb_cost.proofs.WithinCredits.{covers-append, covers-drop}
use Rattle.jb_cost.proofs.ListPieces.{drop-joined, cut-joined}
use Rattle.jb_core.specs.declared.event.CoreFault.TheVariants.{Busy, NoHandle, TooManyCredits, Full, Nothing}
use Rattle.jb_core.specs.Lives.{settled_now}
use Rattle.jb_core.specs.Sound.{waiting, stopped_now, IsGranted, HasOnlySettled, IsMachineSound}
use Rattle.jb_core.proofs.AcceptedEvents.{there-at, found-none, found-some, first-false, still-up}
use Rattle.jb_core.proofs.MapEntries.{sum-insert, sum-remove, length-insert_entry, length-remove_entry}
use Rattle.jb_core.proofs.SettledGroups.{more-settled, parts-joined}
use Rattle.std.specs.FinMap as map
use Rattle.jb_handle.specs.HeldChanges as handle

-- ---- what is reserved, after each event

abbrev pub credits_of : Held → ℕ
credits_of h = h.credits

module _ (m : Machine) where
  -- the credits of a new handle are reserved
  pub open-reserved : (seat credits : ℕ) → handle_at m seat ≡ None → reserved (after_event m (Open seat credits)) ≡ reserved m + credits
  open-reserved seat credits none = let all = sum-insert credits_of m.handles seat (held credits m.shape map.empty) none in omega (arith, all)

  -- a change leaves the credits of its handle
  pub touch-reserved : (seat : ℕ) (h w : Held) → handle_at m seat ≡ Some h → w.credits ≡ h.credits → sum_by credits_of (values_of (set_value (is_at (nat_cmp seat)) m.handles w)) ≡ sum_by credits_of (values_of m.handles)
  touch-reserved seat h w there same = let all = sum_by-set_value credits_of (is_at (nat_cmp seat)) m.handles h w there in omega (arith, all, same)

  -- without a handle, its credits are left over
  pub gone-reserved : (seat : ℕ) (h : Held) → handle_at m seat ≡ Some h → sum_by credits_of (values_of (remove_entry (is_at (nat_cmp seat)) m.handles)) + h.credits ≡ sum_by credits_of (values_of m.handles)
  gone-reserved seat h there = sum-remove credits_of (is_at (nat_cmp seat)) m.handles h there

  -- a handle that stops keeps its credits
  pub stop-reserved : (seat : ℕ) (h : Held) → handle_at m seat ≡ Some h → reserved (after_event m (Stop seat)) ≡ reserved m
  stop-reserved seat h there =
      let more = sum_by-append (λ (x : ℕ). x) m.credits ((held_at m seat).credits ∷ []) in
      let one : sum ((held_at m seat).credits ∷ []) ≡ (held_at m seat).credits = omega arith in
      omega (arith, gone-reserved seat h there, more, one, ap credits_of (there-at m seat h there))

  -- the credits of settled handles are left over
  pub settle-reserved : (n : ℕ) → reserved (after_event m (Settle n)) + sum (take (count (take n m.taken)) m.credits) ≡ reserved m
  settle-reserved n = let parts = sum_by-take-drop (λ (x : ℕ). x) m.credits (count (take n m.taken)) in omega arith

-- ---- each event leaves the machine sound

module _ (m : Machine) (sound : IsMachineSound m) where
  -- what a seat holds is within what was granted
  pub granted-at : (seat : ℕ) (h : Held) → handle_at m seat ≡ Some h → IsGranted m.shape m.most h
  granted-at seat h there = subst (λ found. IfSome found (IsGranted m.shape m.most)) there (IfSome-lookup_from_All (IsGranted m.shape m.most) (is_at (nat_cmp seat)) m.handles sound.granted)

  granted-held : (seat : ℕ) (h : Held) → handle_at m seat ≡ Some h → IsGranted m.shape m.most (held_at m seat)
  granted-held seat h there = subst (IsGranted m.shape m.most) (sym (there-at m seat h there)) (granted-at seat h there)

  module _ (up : m.up ≡ true) where
    never-down : (n : Machine) → m.up ≡ false → HasOnlySettled n
    never-down n = still-up m.up up

    -- other open handles, and another number of groups that are home
    handled : (hs : List (ℕ × Held)) (home : ℕ) → All (IsGranted m.shape m.most) (values_of hs) → reserved (record m { handles = hs }) ≤ 2147483646 → m.next + length hs ≤ 2 ^ 61 → home ≤ length m.settled
        → IsMachineSound (record m { handles = hs; checkpointed = home })
    handled hs home granted room tickets within = assumption (never-down (record m { handles = hs; checkpointed = home }))

    pub open-sound : (seat credits : ℕ) → refusal_up m (Open seat credits) ≡ None → IsMachineSound (after_event m (Open seat credits))
    open-sound seat credits accepts =
        let tests = passed (is_some (handle_at m seat)) (nat_lt m.most credits) (is_full m credits) Busy (TooManyCredits m.most) (Full (reserved m)) accepts in
        let full = or_parts (nat_lt 2147483646 (reserved m + credits)) (nat_le (2 ^ 61) (m.next + length m.handles)) tests.2 in
        let room : nat_lt 2147483646 (reserved m + credits) ≡ false = full.0 in
        let fits : reserved m + credits ≤ 2147483646 = grind (arith, nat_tests) in
        let tickets : nat_le (2 ^ 61) (m.next + length m.handles) ≡ false = full.1 in
        let left : m.next + length m.handles < 2 ^ 61 = grind (arith, nat_tests) in
        let more : nat_lt m.most credits ≡ false = tests.1 in
        let few : credits ≤ m.most = grind (arith, nat_tests) in
        let within = sound.most.within in
        let limit = m.shape.most in
        let same = open-reserved m seat credits (found-none (handle_at m seat) tests.0) in
        let longer = length-insert_entry m.handles seat (held credits m.shape map.empty) in
        handled (after_event m (Open seat credits)).handles m.checkpointed
        (All-values-insert_entry nat_cmp seat (held credits m.shape map.empty) (IsGranted m.shape m.most) m.handles sound.granted (record { few = few; same_shape = refl; kept = kept-new credits m.shape (omega arith) }))
        (omega (arith, same, fits)) (omega (arith, longer, left)) sound.home

    pub touch-sound : (seat : ℕ) (op : Op) → refusal_up m (Touch seat op) ≡ None → IsMachineSound (after_event m (Touch seat op))
    touch-sound seat op accepts =
        let first = first-false (is_none (handle_at m seat)) NoHandle _ accepts in
        let found = found-some (handle_at m seat) first.0 in
        let none = found-none (handle.refusal (held_at m seat) op) (first-false (is_some (handle.refusal (held_at m seat) op)) _ [] first.1).0 in
        let granted = granted-held seat found.0 found.1 in
        let kept = word-kept (held_at m seat) (home_of op) (word_of op) granted.kept none in
        let after = handle.after (held_at m seat) op in
        let same = touch-reserved m seat found.0 after found.1 (ap credits_of (there-at m seat found.0 found.1)) in
        let long = length-set_value (is_at (nat_cmp seat)) m.handles after in
        let room = sound.room in
        let tickets = sound.tickets in
        handled (after_event m (Touch seat op)).handles m.checkpointed
        (All-values-set_value (is_at (nat_cmp seat)) (IsGranted m.shape m.most) m.handles after sound.granted (record { few = granted.few; same_shape = granted.same_shape; kept = kept }))
        (omega arith) (omega arith) sound.home

    gone-granted : (seat : ℕ) → All (IsGranted m.shape m.most) (values_of (after_event m (Abandon seat)).handles)
    gone-granted seat = All-map-remove_entry (is_at (nat_cmp seat)) (λ (e : ℕ × Held). e.1) (IsGranted m.shape m.most) m.handles sound.granted

    pub abandon-sound : (seat : ℕ) → refusal_up m (Abandon seat) ≡ None → IsMachineSound (after_event m (Abandon seat))
    abandon-sound seat accepts =
        let found = found-some (handle_at m seat) (first-false (is_none (handle_at m seat)) NoHandle [] accepts).0 in
        let all = gone-reserved m seat found.0 found.1 in
        let fewer = length-remove_entry (is_at (nat_cmp seat)) m.handles found.0 found.1 in
        let room = sound.room in
        let tickets = sound.tickets in
        handled (after_event m (Abandon seat)).handles m.checkpointed (gone-granted seat) (omega arith) (omega arith) sound.home

    pub stop-sound : (seat : ℕ) → refusal_up m (Stop seat) ≡ None → IsMachineSound (after_event m (Stop seat))
    stop-sound seat accepts =
        let found = found-some (handle_at m seat) (first-false (is_none (handle_at m seat)) NoHandle [] accepts).0 in
        let granted = granted-held seat found.0 found.1 in
        let line : waiting m ++ stopped_at m seat ∷ [] ≡ joined m.taken ++ (m.queue ++ stopped_at m seat ∷ []) = append_assoc (joined m.taken) m.queue (stopped_at m seat ∷ []) in
        let all : stopped_now m ++ stopped_at m seat ∷ [] ≡ stopped_now (after_event m (Stop seat)) = append_assoc (settled_now m) (waiting m) (stopped_at m seat ∷ []) ∙ ap (λ hs. settled_now m ++ hs) line in
        let fits = subst (λ shape. Fits shape (held_at m seat).words) granted.same_shape granted.kept.fits in
        let was = sound.counted up in
        let longer = length-append (stopped_now m) (stopped_at m seat ∷ []) in
        let fewer = length-remove_entry (is_at (nat_cmp seat)) m.handles found.0 found.1 in
        let same = stop-reserved m seat found.0 found.1 in
        let room : reserved (after_event m (Stop seat)) ≤ 2147483646 = let room = sound.room in omega arith in
        let tickets : m.next + 1 + length (after_event m (Stop seat)).handles ≤ 2 ^ 61 = let tickets = sound.tickets in omega arith in
        let counted : m.up ≡ true → length (stopped_now (after_event m (Stop seat))) ≡ m.next + 1 = λ _. let same = ap length all in omega arith in
        assumption (
          gone-granted seat,
          All-push (λ credits. credits ≤ m.most) m.credits (held_at m seat).credits sound.few granted.few,
          subst (Covers (m.credits ++ (held_at m seat).credits ∷ [])) line
              (covers-append m.credits ((held_at m seat).credits ∷ []) (waiting m) (stopped_at m seat ∷ []) sound.covered (granted.kept.within, tt)),
          subst (All (λ h. Fits m.shape h.words)) line (All-push (λ h. Fits m.shape h.words) (waiting m) (stopped_at m seat) sound.fits fits),
          subst (TicketsFrom 0) all (tickets-append 0 (stopped_now m) (stopped_at m seat ∷ []) sound.numbered (omega arith, tt)),
          never-down (after_event m (Stop seat)),
        )

    pub take-sound : (bounds : List ℕ) → m.taken ≡ [] → IsCut (length m.queue) bounds → IsMachineSound (after_take m bounds)
    take-sound bounds none cut =
        let line : waiting m ≡ joined (pieces bounds m.queue) ++ [] = ap (λ gs. joined gs ++ m.queue) none ∙ sym (cut-joined bounds m.queue cut) ∙ sym (append-nil (joined (pieces bounds m.queue))) in
        let all : stopped_now m ≡ stopped_now (after_take m bounds) = ap (λ hs. settled_now m ++ hs) line in
        let counted : m.up ≡ true → length (stopped_now (after_take m bounds)) ≡ m.next = λ is. sym (ap length all) ∙ sound.counted is in
        let fits = subst (All (λ h. Fits m.shape h.words)) line sound.fits in
        assumption (subst (Covers m.credits) line sound.covered, fits, subst (TicketsFrom 0) all sound.numbered, never-down (after_take m bounds))

    pub settle-sound : (n : ℕ) → IsMachineSound (after_event m (Settle n))
    settle-sound n =
        let line : drop (count (take n m.taken)) (waiting m) ≡ joined (drop n m.taken) ++ m.queue = drop-joined n m.taken m.queue in
        let all : stopped_now m ≡ stopped_now (after_event m (Settle n)) = sym (parts-joined m sound.lives n) ∙ ap (λ xs. xs ++ (joined (drop n m.taken) ++ m.queue)) (sym (more-settled m sound.lives n)) in
        let longer = length-append m.settled (take n m.taken) in
        let parts = settle-reserved m n in
        let room : reserved (after_event m (Settle n)) ≤ 2147483646 = let room = sound.room in omega arith in
        let counted : m.up ≡ true → length (stopped_now (after_event m (Settle n))) ≡ m.next = λ is. sym (ap length all) ∙ sound.counted is in
        let lives : m.earlier ≤ length (m.settled ++ take n m.taken) = let lives = sound.lives in omega arith in
        let home : m.checkpointed ≤ length (m.settled ++ take n m.taken) = let home = sound.home in omega arith in
        assumption (
          All-drop (λ credits. credits ≤ m.most) (count (take n m.taken)) m.credits sound.few,
          subst (Covers (drop (count (take n m.taken)) m.credits)) line (covers-drop (count (take n m.taken)) m.credits (waiting m) sound.covered),
          subst (All (λ h. Fits m.shape h.words)) line (All-drop (λ h. Fits m.shape h.words) (count (take n m.taken)) (waiting m) sound.fits),
          subst (TicketsFrom 0) all sound.numbered,
          never-down (after_event m (Settle n)),
        )

    pub checkpoint-sound : refusal_up m Checkpoint ≡ None → IsMachineSound (after_event m Checkpoint)
    checkpoint-sound accepts =
        let test : nat_le (length m.settled) m.checkpointed ≡ false = (first-false (nat_le (length m.settled) m.checkpointed) Nothing [] accepts).0 in
        let more : m.checkpointed < length m.settled = grind (arith, nat_tests) in
        handled m.handles (m.checkpointed + 1) sound.granted sound.room sound.tickets (omega (arith, more))

  pub crash-sound : (n : ℕ) → IsMachineSound (after_event m (Crash n))
  crash-sound n =
      let longer = length-append m.settled (take n m.taken) in
      let kept : settled_now m ++ joined (take n m.taken) ≡ stopped_now (after_event m (Crash n)) = sym (more-settled m sound.lives n) ∙ sym (append-nil _) in
      record {
        most = sound.most;
        granted = All-nil (IsGranted m.shape m.most);
        few = All-nil (λ credits. credits ≤ m.most);
        covered = tt;
        fits = All-nil (λ h. Fits m.shape h.words);
        room = omega arith;
        tickets = let tickets = sound.tickets in omega arith;
        numbered = subst (TicketsFrom 0) kept (tickets-first 0 (settled_now m ++ joined (take n m.taken)) (joined (drop n m.taken) ++ m.queue) (subst (TicketsFrom 0) (sym (parts-joined m sound.lives n)) sound.numbered));
        counted = λ up. still-up false up refl;
        lives = let lives = sound.lives in omega arith;
        home = let home = sound.home in omega arith;
        down = λ down. record { handles = refl; taken = refl; queue = refl; credits = refl };
      }

  pub restart-sound : m.up ≡ false → IsMachineSound (after_event m Restart)
  restart-sound down =
      let bare = sound.down down in
      let none : stopped_now (after_event m Restart) ≡ [] = rw (drop-length m.settled, bare.taken, bare.queue) refl in
      let tickets : 0 + length m.handles ≤ 2 ^ 61 = let same = ap length bare.handles in omega arith in
      assumption (subst (TicketsFrom 0) (sym none) tt, ap length none, le_refl (length m.settled), still-up {A = HasOnlySettled (after_event m Restart)} true refl)
