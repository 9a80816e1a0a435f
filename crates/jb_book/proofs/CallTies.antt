-- What a book accepts, the machine accepts, and the account after it is tied again: batches, a failure, and all calls.
use Rattle.std.proofs.Common.{◌≡◌, ℕ, ◌+◌, ◌-◌, true, false, not, nat_lt, ◌==◌, List, [], ◌∷◌, length, take, None, sym, refl, ap, subst, ◌∙◌, Ok, arith}
use Rattle.std.specs.Global.{Vec}
use Rattle.std.proofs.lemmas.Bool.Decides.{nat_tests}
use Rattle.std.proofs.lemmas.List.Elements.{All-nil, All-drop}
use Rattle.jb_cost.specs.Cut.{IsLeastCut}
use Rattle.jb_plan.specs.Batch.{gathered}
use Rattle.jb_plan.specs.Costs.{cost_in}
use Rattle.jb_plan.proofs.SameCosts.{same-costs}
use Rattle.jb_deck.specs.declared.done.Entry.{Entry}
use Rattle.jb_core.specs.declared.event.Event.TheVariants.{Take, Settle, Crash}
use Rattle.jb_core.specs.declared.event.Reply.TheVariants.{Plain}
use Rattle.jb_core.specs.Line.{count}
use Rattle.jb_core.specs.Lives.{EventLog, settled_now}
use Rattle.jb_core.specs.Machine.{Machine, event_refusal, after_event}
use Rattle.jb_core.specs.Steps.{IsLeastOf}
use Rattle.jb_core.proofs.AcceptedEvents.{none-left, still-up}
use Rattle.jb_core.proofs.SoundRuns.{sounds}
use Rattle.jb_book.specs.Account.{Account, IsAccountSound, taken_all, settled_to, failed_of, CanTake, Settles}
use Rattle.jb_book.specs.Calls.{AreOfFirst, IsCutOf}
use Rattle.jb_book.specs.Shadow.{Shadow, settled_by, crashed}
use Rattle.jb_book.specs.MachineTie.{IsDown, IsRunning, IsUntouched, HasHandle, Tied, BookIsTied}
use Rattle.jb_book.proofs.TrailEntries.{follow-length}
use Rattle.jb_book.proofs.Shadows.{shadowed}
use Rattle.jb_book.proofs.MachineLimits.{limits, first-few, none-filled, filled-pieces}
use Rattle.jb_book.proofs.SeatTies.{tied-by, tied-drops, tied-drops-none, tied-opens, tied-shadow, tied-starts, tied-stops, tied-up}

-- ---- the calls

module _ (a : Account) (log : EventLog) (m : Machine) (t : Tied a log m) where
  pub tied-takes : CanTake a → (bounds : Vec ℕ) → IsCutOf (gathered a.shadow.taken a.shadow.queue a.shape) bounds.items → Tied (taken_all a) ((Take bounds, Ok Plain) ∷ log) (after_event m (Take bounds))
  tied-takes can bounds cut =
      let lim = limits a.shape log m t.ran in
      let up = tied-up a log m t can.running in
      let same = tied-shadow a log m t can.running in
      let queue : m.queue ≡ a.shadow.queue = ap (λ (s : Shadow). s.queue) same in
      let long : length m.queue ≡ length a.shadow.queue = ap length queue in
      let some : (length m.queue == 0) ≡ false = grind (arith, nat_tests) in
      let taken : length (settled_now m) + count m.taken ≡ a.shadow.taken = ap (λ (s : Shadow). s.taken) same in
      let settled : length (settled_now m) ≡ a.shadow.settled = ap (λ (s : Shadow). s.settled) same in
      let none = none-filled m.taken t.filled (omega (arith, taken, settled)) in
      let out : not (length m.taken == 0) ≡ false = rw none refl in
      let granted : event_refusal m (Take bounds) ≡ None = rw (up, some, out) refl in
      let least : IsLeastOf m bounds.items =
      rw (lim.same_shape, same-costs a.shape m.geometry m.queue lim.tags lim.entries) (subst (λ q. IsLeastCut (cost_in a.shape q) a.shape.limit (length q) bounds.items) (sym queue) cut) in
      tied-by a log m t can.running (taken_all a) refl can.running (Take bounds) Plain granted least refl up t.one_life t.untouched (filled-pieces m.queue bounds.items least.fitting.cut) refl

  pub tied-settles : a.aborted ≡ false → (past : ℕ) (entries : List Entry) → Settles a past entries → AreOfFirst m.taken entries
      → Tied (settled_to past entries a) ((Settle (length entries), Ok Plain) ∷ log) (after_event m (Settle (length entries)))
  tied-settles running past entries is are =
      let up = tied-up a log m t running in
      let same = tied-shadow a log m t running in
      let both = first-few a.shadow.settled _ past m.taken entries is.follow are in
      let enough : nat_lt (length m.taken) (length entries) ≡ false = grind (arith, nat_tests) in
      let handles : count (take (length entries) m.taken) ≡ past - a.shadow.settled = omega arith in
      tied-by a log m t running (settled_to past entries a) refl running (Settle (length entries)) Plain (rw (up, enough) refl) tt refl up t.one_life t.untouched
      (All-drop HasHandle (length entries) m.taken t.filled) (ap (λ n. settled_by n a.shadow) handles)

  pub tied-settles-none : IsAccountSound a → a.aborted ≡ true → (past : ℕ) (entries : List Entry) → Settles a past entries → (entries ≡ []) × Tied (settled_to past entries a) log m
  tied-settles-none sound fell past entries is =
      let gone = (sound.failed fell).taken in
      let long = follow-length a.shadow.settled _ past entries is.follow in
      let same : a.shadow.settled ≡ a.shadow.settled + (past - a.shadow.settled) = omega (arith, gone, long) in
      let running : a.aborted ≡ false → IsRunning (settled_to past entries a).shadow m = still-up a.aborted fell in
      let failed : a.aborted ≡ true → IsDown (settled_to past entries a).shadow m
      = λ _. record { down = (t.failed fell).down; shadow = (t.failed fell).shadow ∙ (λ i. record (crashed a.shadow) { settled = same i; taken = same i }) } in
      (none-left entries (omega (arith, gone, long)), assumption)

  pub tied-fails : a.aborted ≡ false → Tied (failed_of a) ((Crash 0, Ok Plain) ∷ log) (after_event m (Crash 0))
  tied-fails running =
      let up = tied-up a log m t running in
      let enough : nat_lt (length m.taken) 0 ≡ false = grind (arith, nat_tests) in
      let granted : event_refusal m (Crash 0) ≡ None = rw (up, enough) refl in
      let all : a.shadow.settled + 0 ≡ a.shadow.settled = omega arith in
      record {
        ran = (m, t.ran, (granted, tt, refl, refl));
        accepted = t.accepted;
        one_life = t.one_life;
        untouched = All-nil IsUntouched;
        filled = All-nil HasHandle;
        running = λ is. still-up true refl is;
        failed = λ _. record {
          down = refl;
          shadow = shadowed m (sounds a.shape log m t.ran) (Crash 0) granted tt ∙ ap (λ s. crashed (settled_by 0 s)) (tied-shadow a log m t running) ∙ (λ i. record (crashed a.shadow) { settled = all i; taken = all i });
        };
      }

  pub tied-fails-again : IsAccountSound a → a.aborted ≡ true → Tied (failed_of a) log m
  tied-fails-again sound fell =
      let running : true ≡ false → IsRunning (failed_of a).shadow m = still-up true refl in
      let failed : true ≡ true → IsDown (failed_of a).shadow m = λ _. let down = t.failed fell in assumption in
      assumption

  pub tied-shuts : Tied (record a { shut = true }) log m
  tied-shuts = assumption

-- ---- all of them

pub tied : BookIsTied
tied = record {
  starts = tied-starts;
  opens = λ a log m sound t. tied-opens a log m t sound;
  stops = λ a log m sound t seat ws can. let one = tied-stops a log m t seat ws can in (one.0, one.1);
  drops = tied-drops;
  drops_none = tied-drops-none;
  takes = tied-takes;
  settles = tied-settles;
  settles_none = λ a log m sound t. tied-settles-none a log m t sound;
  fails = tied-fails;
  fails_again = λ a log m sound t. tied-fails-again a log m t sound;
  shuts = tied-shuts;
}
