-- Over every run the machine keeps its lives whole.
use Rattle.std.proofs.Common.{◌≡◌, ℕ, ◌≤◌, true, false, nat_lt, List, [], ◌∷◌, ◌++◌, length, take, drop, Some, None, is_some, is_none, Ok, Err, sym, refl, ap, subst, ◌∙◌, le_refl, arith}
use Rattle.std.proofs.lemmas.List.{length-append, append_assoc, append-nil, map-append, take-append-le}
use Rattle.std.proofs.Math.Seq.{drop-length, take-length}
use Rattle.std.specs.FinMap as map
use Rattle.jb_handle.specs.declared.shape.Shape.{Shape}
use Rattle.jb_handle.specs.HeldChanges.{Held, held, home_of, word_of}
use Rattle.jb_handle.specs.HeldChanges as handle
use Rattle.jb_handle.specs.LastOp.{words_by}
use Rattle.jb_handle.proofs.AdmittedChange.{passed}
use Rattle.jb_core.specs.declared.event.Event.{Event}
use Rattle.jb_core.specs.declared.event.Event.TheVariants.{Open, Touch, Stop, Abandon, Take, Settle, Checkpoint, Crash, Restart}
use Rattle.jb_core.specs.declared.event.Reply.{Reply}
use Rattle.jb_core.specs.declared.event.CoreFault.{CoreFault}
use Rattle.jb_core.specs.declared.event.CoreFault.TheVariants.{Busy, NoHandle, TooManyCredits, Full}
use Rattle.jb_cost.specs.Pieces.{joined, pieces}
use Rattle.jb_cost.proofs.ListPieces.{cut-joined}
use Rattle.jb_core.specs.Machine.{Machine, handle_at, held_at, reserved, is_full, event_refusal, refusal_up, stopped_at, after_event, reply_of}
use Rattle.jb_core.specs.Sound.{HasOnlySettled}
use Rattle.jb_core.specs.Steps.{MachineSteps, IsLeast}
use Rattle.jb_core.specs.Lives.{EventLog, MachineAnswer, ops_of, ticket_in, stop_order, past_orders, stopped_by, handles_of_order, settled_now, PastKept, IsWhole, log_from}
use Rattle.jb_core.specs.MachineRuns.{IsNewMachine, RanFromStart}
use Rattle.jb_core.proofs.AcceptedEvents.{new-is, found-none, found-some, first-false, none-taken, accepted, restarted, still-up, there-at}
use Rattle.jb_core.proofs.SettledGroups.{more-settled, parts-joined}
use Rattle.jb_core.specs.Seats.{set, change, Once}
use Rattle.jb_core.specs.SeatLaw.{changed}
use Rattle.jb_core.proofs.Seats.{seat-self, set-same, set-other, change-same, change-other, once-set, once-change, once-drop, AreBy, by-changed, by-dropped}

-- how a machine agrees with its log between two events
record Stands (log : EventLog) (m : Machine) : Type 0 where
  handles : AreBy log m.handles
  once : Once m.handles
  lives : m.earlier ≤ length m.settled
  bare : m.up ≡ false → HasOnlySettled m
  whole : IsWhole log m

-- the words of a seat's handle are those of its changes
held-by : (log : EventLog) (m : Machine) (seat : ℕ) (h : Held) → handle_at m seat ≡ Some h → AreBy log m.handles → (held_at m seat).words ≡ words_by (ops_of seat log)
held-by log m seat h there by = ap (λ (g : Held). g.words) (there-at m seat h there) ∙ by seat h there

-- ---- each event

module _ (log : EventLog) (m : Machine) (s : Stands log m) where
  refused : (e : Event) (fault : CoreFault) → Stands ((e, Err fault) ∷ log) m
  refused e fault = assumption

  longer : (n : ℕ) → m.earlier ≤ length (m.settled ++ take n m.taken)
  longer n = let lives = s.lives in let all = length-append m.settled (take n m.taken) in omega arith

  same-all : (n : ℕ) → joined (drop m.earlier (m.settled ++ take n m.taken)) ++ (joined (drop n m.taken) ++ m.queue) ≡ settled_now m ++ (joined m.taken ++ m.queue)
  same-all n = ap (λ xs. xs ++ (joined (drop n m.taken) ++ m.queue)) (more-settled m s.lives n) ∙ parts-joined m s.lives n

  same-past : (n : ℕ) → PastKept (past_orders log) (take m.earlier (m.settled ++ take n m.taken))
  same-past n = subst (PastKept (past_orders log)) (sym (take-append-le m.earlier m.settled (take n m.taken) s.lives)) s.whole.past

  -- one after which the machine is up
  still : {next : EventLog} {n : Machine} → n.up ≡ true → AreBy next n.handles → Once n.handles → n.earlier ≤ length n.settled
      → settled_now n ++ (joined n.taken ++ n.queue) ≡ handles_of_order (stop_order next) → PastKept (past_orders next) (take n.earlier n.settled) → Stands next n
  still {next} {n} up by once lives all past = record { handles = by; once = once; lives = lives; bare = still-up n.up up; whole = record { up = λ _. all; crashed = still-up n.up up; past = past } }

  -- one that a machine which is up accepts
  module _ (up : m.up ≡ true) where
    accepts : (e : Event) (reply : Reply) → refusal_up m e ≡ None → IsLeast m e → reply ≡ reply_of m e → Stands ((e, Ok reply) ∷ log) (after_event m e)
    accepts (Open seat credits) reply none least is =
        let tests = passed (is_some (handle_at m seat)) (nat_lt m.most credits) (is_full m credits) Busy (TooManyCredits m.most) (Full (reserved m)) none in
        let free = found-none (handle_at m seat) tests.0 in
        let new = held credits m.shape map.empty in
        still up
        (by-changed log ((Open seat credits, Ok reply) ∷ log) seat m.handles (set m.handles seat new) new (λ x apart. rw apart refl) (λ x apart. set-other seat new x m.handles apart) (set-same seat new m.handles) (rw (seat-self seat) refl) s.handles)
        (once-set seat new m.handles free s.once) s.lives (s.whole.up up) s.whole.past
    accepts (Touch seat op) reply none least is =
        let found = found-some (handle_at m seat) (first-false (is_none (handle_at m seat)) NoHandle _ none).0 in
        let words = held-by log m seat found.0 found.1 s.handles in
        let new = handle.after (held_at m seat) op in
        still up
        (by-changed log ((Touch seat op, Ok reply) ∷ log) seat m.handles (change m.handles seat new) new (λ x apart. rw apart refl) (λ x apart. change-other seat new x m.handles apart)
        (change-same seat new m.handles ∙ ap (λ had. changed had new) found.1) (rw (seat-self seat) (ap (λ ws. map.insert ws (home_of op) (word_of op)) words)) s.handles)
        (once-change seat new m.handles s.once) s.lives (s.whole.up up) s.whole.past
    accepts (Stop seat) reply none least is =
        let found = found-some (handle_at m seat) (first-false (is_none (handle_at m seat)) NoHandle _ none).0 in
        let words = held-by log m seat found.0 found.1 s.handles in
        let ticket : m.next ≡ ticket_in reply = ap ticket_in (sym is) in
        let one : stopped_at m seat ≡ stopped_by (ticket_in reply, ops_of seat log) = λ i. record { ticket = ticket i; words = words i } in
        still up (by-dropped log seat m.handles s.once s.handles) (once-drop seat m.handles s.once) s.lives
        (ap (λ xs. settled_now m ++ xs) (sym (append_assoc (joined m.taken) m.queue (stopped_at m seat ∷ [])))
        ∙ sym (append_assoc (settled_now m) (joined m.taken ++ m.queue) (stopped_at m seat ∷ []))
        ∙ ap (λ xs. xs ++ stopped_at m seat ∷ []) (s.whole.up up)
        ∙ ap (λ x. handles_of_order (stop_order log) ++ x ∷ []) one
        ∙ sym (map-append stopped_by (stop_order log) ((ticket_in reply, ops_of seat log) ∷ [])))
        s.whole.past
    accepts (Abandon seat) reply none least is =
        still up (by-dropped log seat m.handles s.once s.handles) (once-drop seat m.handles s.once) s.lives (s.whole.up up) s.whole.past
    accepts (Take bounds) reply none least is =
        let free = none-taken m none in
        still up s.handles s.once s.lives
        (ap (λ xs. settled_now m ++ xs)
        (append-nil (joined (pieces bounds.items m.queue)) ∙ cut-joined bounds.items m.queue least.fitting.cut ∙ ap (λ gs. joined gs ++ m.queue) (sym free)) ∙ s.whole.up up)
        s.whole.past
    accepts (Settle n) reply none least is =
        still up s.handles s.once (longer n) (same-all n ∙ s.whole.up up) (same-past n)
    accepts Checkpoint reply none least is = still up s.handles s.once s.lives (s.whole.up up) s.whole.past
    accepts (Crash n) reply none least is = record {
      handles = λ x h is. cc;
      once = tt;
      lives = longer n;
      bare = λ down. record { handles = refl; taken = refl; queue = refl; credits = refl };
      whole = record {
        up = λ up. still-up false up refl;
        crashed = λ down. (joined (drop n m.taken) ++ m.queue, same-all n ∙ s.whole.up up);
        past = same-past n;
      };
    }
    accepts Restart reply none least is = absurd (cc)

  happens : (e : Event) (reply : Reply) → event_refusal m e ≡ None → IsLeast m e → reply ≡ reply_of m e → Stands ((e, Ok reply) ∷ log) (after_event m e)
  happens Restart reply none least is =
      let down = restarted m none in
      let bare = s.bare down in
      let prefix = s.whole.crashed down in
      still refl s.handles s.once (le_refl (length m.settled))
      (rw (drop-length m.settled, bare.taken, bare.queue) refl) (subst (PastKept (stop_order log ∷ past_orders log)) (sym (take-length m.settled)) (m.earlier, prefix.0, prefix.1, s.whole.past))
  happens e reply none least is = let granted = accepted m e refl none in accepts granted.0 e reply granted.1 least is

  stepped : (e : Event) (answer : MachineAnswer) (n : Machine) → MachineSteps e m answer n → Stands ((e, answer) ∷ log) n
  stepped e (Ok reply) n step = subst (Stands ((e, Ok reply) ∷ log)) (sym step.2) (happens e reply step.0 step.1 step.3)
  stepped e (Err fault) n step = subst (Stands ((e, Err fault) ∷ log)) (sym step.1) (refused e fault)

-- ---- runs

begun : (shape : Shape) (m : Machine) → IsNewMachine shape m → Stands [] m
begun shape m start = subst (Stands []) (new-is shape m start) (record {
  handles = λ x h is. cc;
  once = tt;
  lives = omega arith;
  bare = still-up true refl;
  whole = record { up = λ up. refl; crashed = still-up true refl; past = refl };
})

stands : (shape : Shape) (log : EventLog) (m : Machine) → RanFromStart shape log m → Stands log m
stands shape [] m start = begun shape m start
stands shape (last ∷ earlier) m (before, ran, step) = stepped earlier before (stands shape earlier before ran) last.0 last.1 m step

pub once-ran : (shape : Shape) (log : EventLog) (m : Machine) → RanFromStart shape log m → Once m.handles
once-ran shape log m ran = (stands shape log m ran).once

pub whole : (shape : Shape) (log : EventLog) (m : Machine) → RanFromStart shape log m → IsWhole log m
whole shape log m ran = (stands shape log m ran).whole

-- one event more
pub log-more : (log : EventLog) (events : List Event) (answers : List MachineAnswer) (e : Event) (a : MachineAnswer) → length events ≡ length answers → log_from log (events ++ e ∷ []) (answers ++ a ∷ []) ≡ (e, a) ∷ log_from log events answers
log-more log [] [] e a same = refl
log-more log [] (b ∷ answers) e a same = absurd (omega (arith, same))
log-more log (d ∷ events) [] e a same = absurd (omega (arith, same))
log-more log (d ∷ events) (b ∷ answers) e a same = log-more ((d, b) ∷ log) events answers e a (omega arith)
