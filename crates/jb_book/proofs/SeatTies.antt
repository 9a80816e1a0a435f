-- What a book accepts of its seats, the machine accepts, and the account after it is tied again.
use Rattle.std.proofs.Common.{◌≡◌, ℕ, ◌<◌, ◌≤◌, Bool, true, false, nat_le, ◌==◌, List, [], ◌∷◌, ◌++◌, map, length, suc, Some, None, All, sym, refl, ap, ◌∙◌, le_refl, Ok, arith, ◌⊎◌, ⊎_elim, ◌+◌, ◌^◌, nat_lt, IfSome, subst, nat_cmp}
use Rattle.std.proofs.lemmas.Bool.Decides.{nat_tests}
use Rattle.std.specs.Cmp.{nat_cmp_total}
use Rattle.std.specs.BTreeMap.{is_at}
use Rattle.std.specs.Map.{set_value, remove_entry, values_of}
use Rattle.std.proofs.lemmas.List.{length-map}
use Rattle.std.proofs.lemmas.List.Elements.{All-nil}
use Rattle.std.proofs.lemmas.Map.Views.{All-values-insert_entry, All-map-remove_entry, IfSome-lookup_from_All}
use Rattle.jb_block.specs.Size.{bytes_of}
use Rattle.jb_handle.specs.declared.shape.Shape.{Shape}
use Rattle.jb_handle.specs.declared.word.Word.{Word}
use Rattle.jb_handle.specs.declared.word.Word.TheVariants.{Copy, Free}
use Rattle.jb_handle.specs.HeldChanges.{Held, held, FitsWord, Fits, first_of, is_spent, is_misfit, home_of, word_of}
use Rattle.jb_handle.specs.Word.{WordMap}
use Rattle.jb_handle.proofs.EachWord.{each-entry}
use Rattle.jb_core.specs.declared.event.Event.{Event}
use Rattle.jb_core.specs.declared.event.Reply.{Reply}
use Rattle.jb_core.specs.declared.event.Event.TheVariants.{Touch, Open, Stop, Abandon}
use Rattle.jb_core.specs.declared.event.Reply.TheVariants.{Plain, Ticket}
use Rattle.jb_core.specs.Lives.{EventLog}
use Rattle.jb_core.specs.Machine.{Machine, handle_at, held_at, event_refusal, after_event, reply_of, reserved, is_full}
use Rattle.jb_core.specs.Steps.{IsLeast}
use Rattle.jb_core.specs.MachineRuns.{RanFromStart}
use Rattle.jb_core.proofs.AcceptedEvents.{there-at, still-up}
use Rattle.jb_core.specs.SeatLaw.{changed}
use Rattle.jb_core.proofs.Seats.{change-same}
use Rattle.jb_core.proofs.SoundRuns.{sounds}
use Rattle.jb_book.specs.Events.{after_shadow, shadow_of, granted_in}
use Rattle.jb_book.specs.MachineTie.{AreAccepted, op_for, IsDown, IsRunning, IsUntouched, HasHandle, Tied, TiedBy, touches_of}
use Rattle.jb_cost.specs.declared.geometry.Geometry.{Geometry}
use Rattle.jb_cost.specs.Cost.{worst_cost_of}
use Rattle.jb_cost.specs.Credits.{IsMost}
use Rattle.jb_plan.specs.Costs.{geometry_of}
use Rattle.jb_core.proofs.SoundEvents.{granted-at}
use Rattle.jb_book.specs.Account.{Account, IsAccountSound, IsNewBook, granted_to, dropped_of, queued, CanStop}
use Rattle.jb_book.specs.Shadow.{Shadow, credits_at, begun_at, dropped, stopped}
use Rattle.jb_book.proofs.Shadows.{shadowed, lookup-map}
use Rattle.jb_book.proofs.Accounts.{passed}
use Rattle.jb_book.proofs.MachineLimits.{limits, same-reserved, no-handle, some-handle, gone-none}
use Rattle.std.specs.FinMap as words
use Rattle.jb_handle.specs.HeldChanges as handle
use Rattle.jb_book.specs.Account as book
use Rattle.jb_book.specs.Shadow as shadow

-- ---- changes of an open handle of the machine, one for each home of some words, leave it with the words

-- ---- one change

-- the change that leaves a word is of its home, and leaves it
same-put : {A : Type 0} (f : ℕ → Word → A) (e : ℕ × Word) → f (home_of (op_for e)) (word_of (op_for e)) ≡ f e.0 e.1
same-put f (home, Copy bytes) = refl
same-put f (home, Free) = refl

-- a change that fits is not refused where a credit is left
module _ (h : Held) (room : words.len h.words < h.credits) where
  not-spent : (home : ℕ) → is_spent h home ≡ false
  not-spent home = grind (arith, nat_tests)

  pub fits-in : (e : ℕ × Word) → FitsWord h.shape e.0 e.1 → handle.refusal h (op_for e) ≡ None
  fits-in (home, Copy bytes) fits =
      let far : nat_le h.shape.homes home ≡ false = grind (arith, nat_tests) in
      let same : (length bytes == bytes_of h.shape.bs) ≡ true = grind (arith, nat_tests) in
      rw (not-spent home, far, same) refl
  fits-in (home, Free) fits =
      let far : nat_le h.shape.homes home ≡ false = grind (arith, nat_tests) in
      rw (not-spent home, far) refl

-- ---- entries by their keys

module _ {V : Type 0} (test : ℕ → Bool) (v : V) where
  gone-set : (es : List (ℕ × V)) → remove_entry test (set_value test es v) ≡ remove_entry test es
  gone-set [] = refl
  gone-set (e ∷ es) = let rest = gone-set es in grind (arith, rest)

-- ---- many changes

-- the words of some entries
abbrev pub words_in : List (ℕ × Word) → WordMap
words_in es = words.from_entries es

few-words : (es : List (ℕ × Word)) → words.len (words_in es) ≤ length es
few-words [] = rw (words.len-empty nat_cmp Word) (le_refl 0)
few-words (e ∷ es) = let rest = few-words es in grind (arith, rest, words.len-insert nat_cmp_total (words_in es) e.0 e.1)

-- a machine after changes of a seat's open handle, which these entries made
pub record IsTouched (shape : Shape) (log : EventLog) (m : Machine) (seat credits : ℕ) (es : List (ℕ × Word)) (n : Machine) : Type 0 where
  pub ran : RanFromStart shape (map (λ e. (Touch seat (op_for e), Ok Plain)) es ++ log) n
  pub accepted : AreAccepted (map (λ e. (Touch seat (op_for e), Ok Plain)) es ++ log)
  pub same : n ≡ record m { handles = n.handles }
  pub shadow : shadow_of n ≡ shadow_of m
  pub there : handle_at n seat ≡ Some (held credits shape (words_in es))
  pub rest : remove_entry (is_at (nat_cmp seat)) n.handles ≡ remove_entry (is_at (nat_cmp seat)) m.handles

module _ (shape : Shape) (log : EventLog) (m : Machine) (seat credits : ℕ) (ran : RanFromStart shape log m) (accepted : AreAccepted log) (up : m.up ≡ true) (there : handle_at m seat ≡ Some (held credits shape words.empty)) where
  pub touched : (es : List (ℕ × Word)) → length es ≤ credits → All (λ e. FitsWord shape e.0 e.1) es → (n : Machine) × IsTouched shape log m seat credits es n
  touched [] few fits = (m, record { ran = ran; accepted = accepted; same = refl; shadow = refl; there = there; rest = refl })
  touched (e ∷ es) few fits =
      let (n, t) = touched es (omega (arith, few)) (λ k d within. fits (suc k) d (omega (arith, within))) in
      let still : n.up ≡ true = ap (λ (k : Machine). k.up) t.same ∙ up in
      let few_yet = few-words es in
      let free : handle.refusal (held credits shape (words_in es)) (op_for e) ≡ None = fits-in (held credits shape (words_in es)) (omega (arith, few, few_yet)) e (fits 0 e (omega arith)) in
      let none : event_refusal n (Touch seat (op_for e)) ≡ None = rw (still, t.there) (rw free refl) in
      let holds : held_at n seat ≡ held credits shape (words_in es) = there-at n seat (held credits shape (words_in es)) t.there in
      let is : handle.after (held_at n seat) (op_for e) ≡ held credits shape (words.insert (words_in es) e.0 e.1)
      = ap (λ (k : Held). handle.after k (op_for e)) holds ∙ same-put (λ home word. held credits shape (words.insert (words_in es) home word)) e in (
        after_event n (Touch seat (op_for e)),
        record {
          ran = (n, t.ran, (none, tt, refl, refl));
          accepted = t.accepted;
          same = ap (λ (k : Machine). let changed : Machine = record k { handles = (after_event n (Touch seat (op_for e))).handles } in changed) t.same;
          shadow = shadowed n (sounds shape _ n t.ran) (Touch seat (op_for e)) none tt ∙ t.shadow;
          there = change-same seat (handle.after (held_at n seat) (op_for e)) n.handles ∙ ap (λ had. changed had (handle.after (held_at n seat) (op_for e))) t.there ∙ ap Some is;
          rest = gone-set (is_at (nat_cmp seat)) (handle.after (held_at n seat) (op_for e)) n.handles ∙ t.rest;
        },
      )

-- all entries of words are the words
pub words-all : (ws : WordMap) → words_in (words.entries ws) ≡ ws
words-all ws = words.same_map nat_cmp_total words.nat_cmp-IsAntisymmetric _ _ (λ q. words.get-from_entries nat_cmp_total (words.entries ws) q ∙ sym (words.get-entries ws q))

-- words that fit, entry by entry
pub entries-fit : (shape : Shape) (ws : WordMap) → Fits shape ws → All (λ e. FitsWord shape e.0 e.1) (words.entries ws)
entries-fit shape ws fits = each-entry (FitsWord shape) ws fits

-- ---- the start

-- a machine that is up and has done nothing, with the limits of a book
abbrev begun_as : Shape → Geometry → ℕ → Machine
begun_as shape geometry most = record {
  shape = shape;
  geometry = geometry;
  most = most;
  up = true;
  handles = [];
  queue = [];
  taken = [];
  settled = [];
  earlier = 0;
  checkpointed = 0;
  next = 0;
  credits = [];
}

pub tied-starts : (shape : Shape) (usable : ℕ) (a : Account) → IsNewBook shape usable a → TiedBy a []
tied-starts shape usable a start =
    let m = begun_as a.shape (geometry_of a.shape) a.most in (
      m,
      record {
        ran = (let most : IsMost (geometry_of a.shape) a.shape.limit a.most = subst (λ (s : Shape). IsMost (geometry_of s) s.limit a.most) (sym start.same_shape) start.most in assumption);
        accepted = tt;
        one_life = refl;
        untouched = All-nil IsUntouched;
        filled = All-nil HasHandle;
        running = λ up. record { up = refl; shadow = sym start.shadow };
        failed = λ down. still-up a.aborted down start.aborted;
      },
    )

-- ---- the calls

module _ (a : Account) (log : EventLog) (m : Machine) (t : Tied a log m) where
  module _ (running : a.aborted ≡ false) where
    pub tied-up : m.up ≡ true
    tied-up = (t.running running).up

    pub tied-shadow : shadow_of m ≡ a.shadow
    tied-shadow = (t.running running).shadow

    none-at : (seat : ℕ) → credits_at a.shadow seat ≡ None → handle_at m seat ≡ None
    none-at seat free = no-handle (handle_at m seat) (sym (lookup-map (is_at (nat_cmp seat)) m.handles) ∙ ap (λ s. credits_at s seat) tied-shadow ∙ free)

    some-at : (seat credits : ℕ) → credits_at a.shadow seat ≡ Some credits → (h : Held) × (handle_at m seat ≡ Some h) × (h.credits ≡ credits)
    some-at seat credits there = some-handle credits (handle_at m seat) (sym (lookup-map (is_at (nat_cmp seat)) m.handles) ∙ ap (λ s. credits_at s seat) tied-shadow ∙ there)

    -- an open handle is untouched, and has the book's shape
    open-at : (seat credits : ℕ) → credits_at a.shadow seat ≡ Some credits → handle_at m seat ≡ Some (held credits a.shape words.empty)
    open-at seat credits there =
        let (h, is, same) = some-at seat credits there in
        let granted = granted-at m (sounds a.shape log m t.ran) seat h is in
        let lim = limits a.shape log m t.ran in
        let untouched : IsUntouched h = subst (λ found. IfSome found IsUntouched) is (IfSome-lookup_from_All IsUntouched (is_at (nat_cmp seat)) m.handles t.untouched) in
        let shaped : h.shape ≡ a.shape = granted.same_shape ∙ lim.same_shape in
        is ∙ ap Some (λ i. record { credits = same i; shape = shaped i; words = untouched i })

    -- an event that the machine accepts, after which it is up, and has the shadow of an account that runs
    pub tied-by : (b : Account) → b.shape ≡ a.shape → b.aborted ≡ false → (e : Event) (reply : Reply) → event_refusal m e ≡ None → IsLeast m e → reply ≡ reply_of m e
        → (after_event m e).up ≡ true → (after_event m e).earlier ≡ 0 → All IsUntouched (values_of (after_event m e).handles) → All HasHandle (after_event m e).taken
        → after_shadow m e a.shadow ≡ b.shadow → Tied b ((e, Ok reply) ∷ log) (after_event m e)
    tied-by b shape runs e reply none least is up earlier untouched filled moved = record {
      ran = subst (λ s. RanFromStart s ((e, Ok reply) ∷ log) (after_event m e)) (sym shape) (m, t.ran, (none, least, refl, is));
      accepted = t.accepted;
      one_life = earlier;
      untouched = untouched;
      filled = filled;
      running = λ on. record { up = up; shadow = shadowed m (sounds a.shape log m t.ran) e none least ∙ ap (after_shadow m e) tied-shadow ∙ moved };
      failed = λ fell. still-up b.aborted fell runs;
    }

  pub tied-opens : IsAccountSound a → (seat credits : ℕ) → book.begin_refusal a seat credits ≡ None → Tied (granted_to seat credits a) ((Open seat credits, Ok Plain) ∷ log) (after_event m (Open seat credits))
  tied-opens sound seat credits free_at =
      let (running, shut, free, few, room, left, grants) = passed a seat credits free_at in
      let lim = limits a.shape log m t.ran in
      let up = tied-up running in
      let same = tied-shadow running in
      let none = none-at running seat free in
      let costs : worst_cost_of m.geometry a.most ≤ m.shape.limit = rw (lim.same_shape, lim.tags) sound.most.within in
      let most = (sounds a.shape log m t.ran).most.greatest a.most costs in
      let many : nat_lt m.most credits ≡ false = grind (arith, nat_tests) in
      let sums : reserved m ≡ shadow.reserved_in a.shadow = sym (same-reserved m) ∙ ap shadow.reserved_in same in
      let over : nat_lt 2147483646 (reserved m + credits) ≡ false = (let le : reserved m + credits ≤ 2147483646 = omega (arith, sums, room) in grind (arith, nat_tests)) in
      let seats : length m.handles ≡ length a.shadow.seats = sym (length-map m.handles granted_in) ∙ ap (λ (s : Shadow). length s.seats) same in
      let next : m.next ≡ a.shadow.next = ap (λ (s : Shadow). s.next) same in
      let late : nat_le (2 ^ 61) (m.next + length m.handles) ≡ false = (let lt : m.next + length m.handles < 2 ^ 61 = omega (arith, seats, next, left) in grind (arith, nat_tests)) in
      let full : is_full m credits ≡ false = rw (over, late) refl in
      tied-by running (granted_to seat credits a) refl running (Open seat credits) Plain (rw (up, none, many, full) refl) tt refl up t.one_life
      (All-values-insert_entry nat_cmp seat (held credits m.shape words.empty) IsUntouched m.handles t.untouched refl) t.filled refl

  pub tied-drops : a.aborted ≡ false → (seat credits : ℕ) → credits_at a.shadow seat ≡ Some credits → Tied (dropped_of seat a) ((Abandon seat, Ok Plain) ∷ log) (after_event m (Abandon seat))
  tied-drops running seat credits listed =
      let up = tied-up running in
      let there = (some-at running seat credits listed).1 in
      tied-by running (dropped_of seat a) refl running (Abandon seat) Plain (rw (up, there) refl) tt refl up t.one_life
      (All-map-remove_entry (is_at (nat_cmp seat)) (λ (e : ℕ × Held). e.1) IsUntouched m.handles t.untouched) t.filled refl

  pub tied-drops-none : (seat : ℕ) → (a.aborted ≡ true) ⊎ (credits_at a.shadow seat ≡ None) → Tied (dropped_of seat a) log m
  tied-drops-none seat why =
      let seats : a.aborted ≡ false → a.shadow.seats ≡ (dropped_of seat a).shadow.seats
      = λ is. ⊎_elim (λ fell. still-up a.aborted fell is) (λ none. sym (gone-none (is_at (nat_cmp seat)) a.shadow.seats none)) why in
      let running : a.aborted ≡ false → IsRunning (dropped_of seat a).shadow m = λ is. record { up = tied-up is; shadow = tied-shadow is ∙ (λ i. record a.shadow { seats = seats is i }) } in
      let failed : a.aborted ≡ true → IsDown (dropped_of seat a).shadow m = λ is. let down = t.failed is in assumption in
      assumption

  pub tied-stops : (seat : ℕ) (ws : WordMap) → CanStop a seat ws
      → (n : Machine) × Tied (queued seat ws a) ((Stop seat, Ok (Ticket a.shadow.next)) ∷ touches_of seat ws ++ log) n × (n.settled ≡ m.settled) × (n.taken ≡ m.taken)
  tied-stops seat ws can =
      let running = can.0 in
      let credits = can.1.0 in
      let is = can.1.1 in
      let size = words.len-entries ws in
      let (n, u) = touched a.shape log m seat credits t.ran t.accepted (tied-up running) (open-at running seat credits is.listed) (words.entries ws) (omega (arith, size)) (entries-fit a.shape ws is.fits) in
      let still : n.up ≡ true = ap (λ (k : Machine). k.up) u.same ∙ tied-up running in
      let same : shadow_of n ≡ a.shadow = u.shadow ∙ tied-shadow running in
      let granted : event_refusal n (Stop seat) ≡ None = rw (still, u.there) refl in
      let has : (held_at n seat).words ≡ ws = ap (λ (h : Held). h.words) (there-at n seat _ u.there) ∙ words-all ws in
      let ticket : a.shadow.next ≡ n.next = ap (λ (s : Shadow). s.next) (sym same) in (
        after_event n (Stop seat),
        record {
          ran = (n, u.ran, (granted, tt, refl, ap Ticket ticket));
          accepted = u.accepted;
          one_life = ap (λ (k : Machine). k.earlier) u.same ∙ t.one_life;
          untouched = subst (λ es. All IsUntouched (values_of es)) (sym u.rest) (All-map-remove_entry (is_at (nat_cmp seat)) (λ (e : ℕ × Held). e.1) IsUntouched m.handles t.untouched);
          filled = subst (All HasHandle) (ap (λ (k : Machine). k.taken) (sym u.same)) t.filled;
          running = λ on. record { up = still; shadow = shadowed n (sounds a.shape _ n u.ran) (Stop seat) granted tt ∙ (λ i. stopped seat (has i) (same i)) };
          failed = λ fell. still-up a.aborted fell running;
        },
        ap (λ (k : Machine). k.settled) u.same,
        ap (λ (k : Machine). k.taken) u.same,
      )
