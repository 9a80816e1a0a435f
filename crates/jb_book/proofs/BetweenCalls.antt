-- What is known between two calls of a book, and what the calls of its seats keep of it.
use Rattle.std.proofs.Common.{◌≡◌, ℕ, ◌+◌, ◌-◌, ◌^◌, ◌<◌, ◌≤◌, List, [], ◌∷◌, ◌++◌, map, length, take, drop, le_refl, sym, refl, ap, subst, ◌∙◌, arith, inl, inr, Bool, true, false, Option, Some, None, Ok}
use Rattle.std.specs.Global.{Vec}
use Rattle.std.proofs.lemmas.List.{length-append, append_assoc, drop-append-le, take-append-le, length-drop}
use Rattle.std.proofs.Math.Seq.{drop-append_seam, take-append_seam}
use Rattle.std.proofs.lemmas.List.Elements.{All-nil}
use Rattle.std.specs.Vec.{vec_ptr, vec_allocator}
use Rattle.jb_handle.specs.declared.shape.Shape.{Shape}
use Rattle.jb_handle.specs.declared.stopped.Stopped.{Stopped}
use Rattle.jb_handle.specs.HeldChanges.{Fits}
use Rattle.jb_cost.specs.Credits.{IsMost}
use Rattle.jb_cost.specs.Cut.{IsCut}
use Rattle.jb_cost.specs.Pieces.{joined}
use Rattle.jb_plan.specs.Costs.{geometry_of}
use Rattle.jb_deck.specs.declared.done.Entry.{Entry}
use Rattle.jb_deck.specs.Done.{Follow, start_of}
use Rattle.jb_core.proofs.AcceptedEvents.{still-up}
use Rattle.jb_book.specs.Account.{Account, IsAccountSound, IsNewBook, granted_to, dropped_of, queued, begin_refusal, CanStop}
use Rattle.jb_book.specs.Calls.{AreOfFirst, handles_in, BookCall, Opened, Enqueued, Dropped, Shut, stops_of, out_of, settled_of}
use Rattle.jb_book.specs.Shadow.{Shadow, credits_at}
use Rattle.jb_handle.specs.Tickets.{TicketsFrom}
use Rattle.jb_handle.specs.Word.{WordMap}
use Rattle.jb_handle.proofs.Tickets.{tickets-append}
use Rattle.jb_core.specs.declared.event.Reply.TheVariants.{Plain, Ticket}
use Rattle.jb_core.specs.Lives.{EventLog, settled_now, handles_of_order, stop_order}
use Rattle.jb_core.specs.Machine.{Machine, after_event}
use Rattle.jb_core.proofs.WholeLives.{whole}
use Rattle.jb_book.specs.MachineTie.{Tied, touches_of}
use Rattle.jb_book.proofs.CommitEntries.{cut-within}
use Rattle.jb_book.proofs.TrailEntries.{follow-length}
use Rattle.jb_book.proofs.Accounts.{begun-sound, dropped-sound, queued-sound, shut-sound}
use Rattle.jb_book.proofs.SeatTies.{tied-opens, tied-stops, tied-drops, tied-drops-none}
use Rattle.jb_book.proofs.CallTies.{tied-shuts}
use Rattle.jb_core.specs.declared.event.Event.TheVariants as event

-- ---- the handles of a book's entries, a new book, and the Vec of a cut's bounds

-- ---- the start

pub started : (shape : Shape) (usable : ℕ) (a : Account) → usable ≤ 2147483646 → IsNewBook shape usable a → IsAccountSound a
started shape usable a small start = subst (λ (s : Shadow). IsAccountSound (record a { shadow = s })) (sym start.shadow) (record {
  most = subst (λ (s : Shape). IsMost (geometry_of s) s.limit a.most) (sym start.same_shape) start.most;
  order = omega arith;
  within = omega arith;
  running = λ _. record { tickets = tt; queued = refl; paired = refl; covered = tt };
  failed = λ fell. still-up a.aborted fell start.aborted;
  seats_few = All-nil (λ credits. credits ≤ a.most);
  few = All-nil (λ credits. credits ≤ a.most);
  fits = All-nil (λ h. Fits a.shape h.words);
  room = omega arith;
  small = omega arith;
  tickets = omega arith;
  changed = omega arith;
  granted = omega arith;
  counted = omega arith;
  trail = subst (λ (es : List Entry). Follow (start_of es) 0 0 es) (sym start.trail) refl;
})

-- ---- the handles of an entry

-- further stops change nothing of the entries of earlier ones
pub more-stops : (first least past : ℕ) (stops ys : List Stopped) (es : List Entry) → Follow first least past es → past ≤ length stops → map (handles_in (stops ++ ys)) es ≡ map (handles_in stops) es
more-stops first least past stops ys [] follow inside = refl
more-stops first least past stops ys (e ∷ es) follow inside =
    let rest = follow-length e.past (e.number + 1) past es follow.3 in
    let fewer = length-drop e.first stops in
    let one : handles_in (stops ++ ys) e ≡ handles_in stops e =
    ap (take (e.past - e.first)) (drop-append-le e.first stops ys (omega (arith, rest, inside))) ∙ take-append-le (e.past - e.first) (drop e.first stops) ys (omega (arith, fewer, rest, inside)) in
    ap (λ g. g ∷ map (handles_in (stops ++ ys)) es) one ∙ ap (λ gs. handles_in stops e ∷ gs) (more-stops e.past (e.number + 1) past stops ys es follow.3 inside)

-- the handles of entries of the first groups are these groups
pub groups-in : (first least past : ℕ) (before : List Stopped) (groups : List (List Stopped)) (rest : List Stopped) (es : List Entry) → length before ≡ first → Follow first least past es → AreOfFirst groups es
    → take (length es) groups ≡ map (handles_in (before ++ (joined groups ++ rest))) es
groups-in first least past before groups rest [] long follow are = refl
groups-in first least past before [] rest (e ∷ es) long follow are = absurd are
groups-in first least past before (g ∷ groups) rest (e ∷ es) long follow are =
    let at : e.first ≡ length before = follow.0 ∙ sym long in
    let size : e.past - e.first ≡ length g = omega arith in
    let here : handles_in (before ++ ((g ++ joined groups) ++ rest)) e ≡ g =
    ap (λ n. take (e.past - e.first) (drop n (before ++ ((g ++ joined groups) ++ rest)))) at
    ∙ ap (take (e.past - e.first)) (drop-append_seam before ((g ++ joined groups) ++ rest) ∙ append_assoc g (joined groups) rest)
    ∙ ap (λ n. take n (g ++ (joined groups ++ rest))) size
    ∙ take-append_seam g (joined groups ++ rest) in
    let all : (before ++ g) ++ (joined groups ++ rest) ≡ before ++ ((g ++ joined groups) ++ rest) = append_assoc before g (joined groups ++ rest) ∙ ap (λ xs. before ++ xs) (sym (append_assoc g (joined groups) rest)) in
    let both = length-append before g in
    let later = groups-in e.past (e.number + 1) past (before ++ g) groups rest es (omega (arith, both)) follow.3 are.1 in
    ap (λ gs. g ∷ gs) (later ∙ ap (λ stops. map (handles_in stops) es) all) ∙ ap (λ h. h ∷ map (handles_in (before ++ ((g ++ joined groups) ++ rest))) es) (sym here)

-- ---- a Vec

pub cut-few : (n : ℕ) (bounds : List ℕ) → IsCut n bounds → length bounds ≤ n + 1
cut-few n [] cut = absurd cut
cut-few n (a ∷ bs) cut = let all = cut-within n (a ∷ bs) 0 cut (omega arith) in omega (arith, all.1)

-- a Vec of these numbers, where there is any Vec
abbrev pub vec_of : Vec Entry → (xs : List ℕ) → length xs < 2 ^ 62 → Vec ℕ
vec_of v xs few = record { ptr = vec_ptr v; len = length xs; cap = length xs; alloc = vec_allocator v; items = xs; ok = (refl, le_refl (length xs)); small = omega (arith, few) }

-- ---- what is known between two calls

-- the events, and how the calls tell the stops and the groups
pub record Stands (shape : Shape) (calls : List BookCall) (a : Account) : Type 0 where
  pub same_shape : a.shape ≡ shape
  pub sound : IsAccountSound a
  pub log : EventLog
  pub machine : Machine
  pub tied : Tied a log machine
  pub stops : handles_of_order (stop_order log) ≡ stops_of calls
  pub settled : machine.settled ≡ settled_of calls
  pub out : machine.taken ≡ out_of calls
  pub numbered : TicketsFrom 0 (stops_of calls)
  pub counted : length (stops_of calls) ≡ a.shadow.next
  pub trail : settled_of calls ≡ map (handles_in (stops_of calls)) a.trail

-- while the machine is up, what it has of the life are its stops
all-of : (a : Account) (log : EventLog) (m : Machine) → Tied a log m → a.aborted ≡ false → joined m.settled ++ (joined m.taken ++ a.shadow.queue) ≡ handles_of_order (stop_order log)
all-of a log m t running =
    let is = t.running running in
    ap (λ n. joined (drop n m.settled) ++ (joined m.taken ++ a.shadow.queue)) (sym t.one_life)
    ∙ ap (λ (s : Shadow). settled_now m ++ (joined m.taken ++ s.queue)) (sym is.shadow)
    ∙ (whole a.shape log m t.ran).up is.up

module _ (shape : Shape) (calls : List BookCall) (a : Account) (s : Stands shape calls a) where
  pub handles-all : a.aborted ≡ false → joined (settled_of calls) ++ (joined (out_of calls) ++ a.shadow.queue) ≡ stops_of calls
  handles-all running =
      ap (λ gs. joined gs ++ (joined (out_of calls) ++ a.shadow.queue)) (sym s.settled)
      ∙ ap (λ gs. joined s.machine.settled ++ (joined gs ++ a.shadow.queue)) (sym s.out)
      ∙ all-of a s.log s.machine s.tied running
      ∙ s.stops

  -- how many handles the settled groups have
  pub settled-handles : a.aborted ≡ false → length (joined (settled_of calls)) ≡ a.shadow.settled
  settled-handles running =
      ap (λ gs. length (joined gs)) (sym s.settled)
      ∙ ap (λ n. length (joined (drop n s.machine.settled))) (sym s.tied.one_life)
      ∙ ap (λ (s : Shadow). s.settled) (s.tied.running running).shadow

  few-stops : a.shadow.settled ≤ length (stops_of calls)
  few-stops = omega arith

  -- ---- each call

  -- one by which no handle stops
  pub call-by : (last : BookCall) (b : Account) → stops_of (last ∷ calls) ≡ stops_of calls → b.shape ≡ a.shape → b.shadow.next ≡ a.shadow.next → IsAccountSound b
      → (log : EventLog) (m : Machine) → Tied b log m → handles_of_order (stop_order log) ≡ stops_of calls → m.settled ≡ settled_of (last ∷ calls) → m.taken ≡ out_of (last ∷ calls)
      → settled_of (last ∷ calls) ≡ map (handles_in (stops_of calls)) b.trail → Stands shape (last ∷ calls) b
  call-by last b same shaped next sound log m tied stops settled out trail = record {
    same_shape = shaped ∙ s.same_shape;
    sound = sound;
    log = log;
    machine = m;
    tied = tied;
    stops = stops ∙ sym same;
    settled = settled;
    out = out;
    numbered = subst (TicketsFrom 0) (sym same) s.numbered;
    counted = ap length same ∙ s.counted ∙ sym next;
    trail = trail ∙ ap (λ hs. map (handles_in hs) b.trail) (sym same);
  }

  -- and no group is settled
  pub call-on : (last : BookCall) (b : Account) → stops_of (last ∷ calls) ≡ stops_of calls → settled_of (last ∷ calls) ≡ settled_of calls → b.shape ≡ a.shape → b.shadow.next ≡ a.shadow.next → b.trail ≡ a.trail → IsAccountSound b
      → (log : EventLog) (m : Machine) → Tied b log m → handles_of_order (stop_order log) ≡ stops_of calls → m.settled ≡ settled_of calls → m.taken ≡ out_of (last ∷ calls) → Stands shape (last ∷ calls) b
  call-on last b same groups shaped next trail sound log m tied stops settled out =
      call-by last b same shaped next sound log m tied stops (settled ∙ sym groups) out (groups ∙ s.trail ∙ ap (map (handles_in (stops_of calls))) (sym trail))

  pub call-opened : (seat credits : ℕ) → begin_refusal a seat credits ≡ None → Stands shape (Opened seat credits (Ok tt) ∷ calls) (granted_to seat credits a)
  call-opened seat credits none =
      call-on (Opened seat credits (Ok tt)) (granted_to seat credits a) refl refl refl refl refl (begun-sound a s.sound seat credits none) ((event.Open seat credits, Ok Plain) ∷ s.log) (after_event s.machine (event.Open seat credits))
      (tied-opens a s.log s.machine s.tied s.sound seat credits none) s.stops s.settled s.out

  pub call-stopped : (seat : ℕ) (ws : WordMap) (ticket : ℕ) → CanStop a seat ws → ticket ≡ a.shadow.next → Stands shape (Enqueued seat ws (Ok ticket) ∷ calls) (queued seat ws a)
  call-stopped seat ws ticket can is =
      let (n, tied, settled, taken) = tied-stops a s.log s.machine s.tied seat ws can in
      let one : Stopped = record { ticket = ticket; words = ws } in
      let own : Stopped = record { ticket = a.shadow.next; words = ws } in
      let counted = s.counted in
      let longer = length-append (stops_of calls) (one ∷ []) in
      let follow = s.sound.trail in
      record {
        same_shape = s.same_shape;
        sound = queued-sound a s.sound seat can.1.0 ws can.0 can.1.1;
        log = (event.Stop seat, Ok (Ticket a.shadow.next)) ∷ touches_of seat ws ++ s.log;
        machine = n;
        tied = tied;
        stops =
            sym (all-of (queued seat ws a) _ n tied can.0)
            ∙ (λ i. joined (settled i) ++ (joined (taken i) ++ (a.shadow.queue ++ own ∷ [])))
            ∙ ap (λ xs. joined s.machine.settled ++ xs) (sym (append_assoc (joined s.machine.taken) a.shadow.queue (own ∷ [])))
            ∙ sym (append_assoc (joined s.machine.settled) (joined s.machine.taken ++ a.shadow.queue) (own ∷ []))
            ∙ ap (λ xs. xs ++ own ∷ []) (all-of a s.log s.machine s.tied can.0 ∙ s.stops)
            ∙ ap (λ k. stops_of calls ++ record { ticket = k; words = ws } ∷ []) (sym is);
        settled = settled ∙ s.settled;
        out = taken ∙ s.out;
        numbered = tickets-append 0 (stops_of calls) (one ∷ []) s.numbered (omega (arith, is, counted), tt);
        counted = omega (arith, longer, counted);
        trail = s.trail ∙ sym (more-stops (start_of a.trail) 0 a.shadow.settled (stops_of calls) (one ∷ []) a.trail follow few-stops);
      }

  pub call-dropped : (seat : ℕ) → Stands shape (Dropped seat ∷ calls) (dropped_of seat a)
  call-dropped seat = at a.aborted refl (credits_at a.shadow seat) refl
    where
      dropped : (log : EventLog) (m : Machine) → Tied (dropped_of seat a) log m → handles_of_order (stop_order log) ≡ stops_of calls → m.settled ≡ settled_of calls → m.taken ≡ out_of calls → Stands shape (Dropped seat ∷ calls) (dropped_of seat a)
      dropped = call-on (Dropped seat) (dropped_of seat a) refl refl refl refl refl (dropped-sound a s.sound seat)

      at : (b : Bool) → a.aborted ≡ b → (found : Option ℕ) → credits_at a.shadow seat ≡ found → Stands shape (Dropped seat ∷ calls) (dropped_of seat a)
      at true fell found is = dropped s.log s.machine (tied-drops-none a s.log s.machine s.tied seat (inl fell)) s.stops s.settled s.out
      at false running None is = dropped s.log s.machine (tied-drops-none a s.log s.machine s.tied seat (inr is)) s.stops s.settled s.out
      at false running (Some credits) is = dropped ((event.Abandon seat, Ok Plain) ∷ s.log) (after_event s.machine (event.Abandon seat)) (tied-drops a s.log s.machine s.tied running seat credits is) s.stops s.settled s.out

  -- a call that answers a refusal, or that only shuts the book
  pub call-shut : Stands shape (Shut ∷ calls) (record a { shut = true })
  call-shut = call-on Shut (record a { shut = true }) refl refl refl refl refl (shut-sound a s.sound) s.log s.machine (tied-shuts a s.log s.machine s.tied) s.stops s.settled s.out

  pub call-idle : (last : BookCall) → stops_of (last ∷ calls) ≡ stops_of calls → settled_of (last ∷ calls) ≡ settled_of calls → out_of (last ∷ calls) ≡ out_of calls → Stands shape (last ∷ calls) a
  call-idle last same settled out = call-on last a same settled refl refl refl s.sound s.log s.machine s.tied s.stops s.settled (s.out ∙ sym out)
