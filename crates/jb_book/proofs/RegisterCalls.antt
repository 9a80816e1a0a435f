-- A book beside the history of its stops: each call keeps what is known of the two.
use Rattle.std.proofs.Common.{◌≡◌, ℕ, ◌+◌, ◌≤◌, Bool, true, false, List, [], ◌∷◌, ◌++◌, map, length, take, drop, sym, refl, ap, subst, ◌∙◌, Ok, Err, arith, ◌↔◌, IsTrue, All, Some, None, IfSome, IfNone, Option, Result, OnOk, OnErr}
use Rattle.std.specs.FinMap as map_of
use Rattle.std.specs.Global.{Vec}
use Rattle.std.specs.List.{sum_by}
use Rattle.std.proofs.lemmas.List.{append-nil, map-append, length-append}
use Rattle.std.proofs.lemmas.List.Elements.{All-nil}
use Rattle.std.proofs.lemmas.List.Sums.{sum_by_push}
use Rattle.jb_handle.specs.declared.shape.Shape.{Shape}
use Rattle.jb_handle.specs.declared.stopped.Stopped.{Stopped}
use Rattle.jb_cost.specs.Pieces.{joined, pieces}
use Rattle.jb_plan.specs.Batch.{gathered, Gathered}
use Rattle.jb_deck.specs.declared.done.Entry.{Entry}
use Rattle.jb_core.specs.declared.event.Reply.TheVariants.{Plain}
use Rattle.jb_core.specs.Machine.{after_event}
use Rattle.jb_core.proofs.SoundRuns.{sounds}
use Rattle.jb_core.proofs.WholeLives.{whole}
use Rattle.jb_book.specs.Account.{Account, IsNewBook, changed_by, taken_all, settled_to, failed_of, CanTake, Settles, IsAccountSound, granted_to, dropped_of, queued, shortened, begin_refusal, CanStop}
use Rattle.jb_book.specs.Calls.{BookCall, Opened, Enqueued, Dropped, Took, Settled, Failed, Shut, stops_of, out_of, settled_of, AreOfFirst, IsCutOf, Does, CallsMake, handles_in, KeepsWhole}
use Rattle.jb_book.specs.Shadow.{Shadow}
use Rattle.jb_book.specs.MachineTie.{EveryRun}
use Rattle.jb_plan.specs.Costs.{cost_in, HasCut}
use Rattle.jb_cost.specs.Cut.{IsLeastCut}
use Rattle.jb_deck.specs.declared.done.Done.{Done}
use Rattle.jb_deck.specs.Done.{Follow, past_after, first_ticket, entries_of}
use Rattle.jb_handle.specs.Tickets.{TicketsFrom}
use Rattle.jb_handle.specs.Word.{WordMap}
use Rattle.jb_board.proofs.EntryPlaces.{placed_snoc}
use Rattle.jb_board.specs.HistoryRule.{IsFirstPart, with_places}
use Rattle.jb_book.specs.declared.fault.BeginFault.{BeginFault}
use Rattle.jb_book.specs.declared.fault.WrongBatch.{WrongBatch}
use Rattle.jb_book.specs.CallsToBook.{AreCut, FailsAfter, IsInHistory, IsLed, IsOutAs, IsRegistered, IsMachineRun, IsSettling, SettlesOrFails, changes_in, words_stopped, with_trail}
use Rattle.jb_book.proofs.Accounts.{taken-sound, settled-sound, failed-sound}
use Rattle.jb_book.proofs.SeatTies.{tied-starts}
use Rattle.jb_book.proofs.CallTies.{tied-takes, tied-settles, tied-settles-none, tied-fails, tied-fails-again}
use Rattle.jb_book.proofs.BetweenCalls.{Stands, call-by, call-dropped, call-idle, call-on, call-opened, call-shut, call-stopped, handles-all, settled-handles, started, groups-in, cut-few, vec_of}
use Rattle.jb_book.proofs.TrailEntries.{follow-past}
use Rattle.jb_book.proofs.CallsLead.{any-led, led-dropped, led-failed, led-opened, led-settled, led-settled-last, led-shortened, led-shut, led-stopped, led-taken, led_start}
use Rattle.jb_book.proofs.ShownTickets.{recorded-more, recorded-on}
use Rattle.jb_book.specs.Marks.{AreOfBook}
use Rattle.jb_book.proofs.BookMarks.{book-on, marked-same, marked-short}
use Rattle.jb_deck.specs.Deck.{OpenDeck}
use mathlib.Core.List.{IsPrefix}
use Rattle.jb_core.specs.declared.event.Event.TheVariants as event

-- ---- any list of calls of a book is a list of events of the machine, and keeps each handle whole in one group or in none

-- ---- batches and a failure

module _ (shape : Shape) (calls : List BookCall) (a : Account) (s : Stands shape calls a) where
  call-took : Vec Entry → (cut : List ℕ) → CanTake a → IsCutOf (gathered a.shadow.taken a.shadow.queue a.shape) cut → Stands shape (Took (gathered a.shadow.taken a.shadow.queue a.shape) cut ∷ calls) (taken_all a)
  call-took any cut can least =
      let few = cut-few (length a.shadow.queue) cut least.fitting.cut in
      let line = (s.sound.running can.running).queued in
      let bounds = vec_of any cut (omega (arith, few, line)) in
      call-on shape calls a s (Took (gathered a.shadow.taken a.shadow.queue a.shape) cut) (taken_all a) refl refl refl refl refl (taken-sound a s.sound can) ((event.Take bounds, Ok Plain) ∷ s.log) (after_event s.machine (event.Take bounds))
      (tied-takes a s.log s.machine s.tied can bounds least) s.stops s.settled (ap (pieces cut) (ap (λ (t : Shadow). t.queue) (s.tied.running can.running).shadow))

  call-settled : (past : ℕ) (entries : List Entry) → Settles a past entries → AreOfFirst (out_of calls) entries → Stands shape (Settled entries (Ok tt) ∷ calls) (settled_to past entries a)
  call-settled past entries is are = at a.aborted refl
    where
      at : (b : Bool) → a.aborted ≡ b → Stands shape (Settled entries (Ok tt) ∷ calls) (settled_to past entries a)
      at true fell =
          let (none, tied) = tied-settles-none a s.log s.machine s.tied s.sound fell past entries is in
          call-by shape calls a s (Settled entries (Ok tt)) (settled_to past entries a) refl refl refl (settled-sound a s.sound past entries is) s.log s.machine tied s.stops
          (s.settled ∙ sym (append-nil (settled_of calls)) ∙ ap (λ es. settled_of calls ++ take (length es) (out_of calls)) (sym none))
          (s.out ∙ ap (λ es. drop (length es) (out_of calls)) (sym none))
          (ap (λ es. settled_of calls ++ take (length es) (out_of calls)) none ∙ append-nil (settled_of calls) ∙ s.trail ∙ ap (map (handles_in (stops_of calls))) (sym (append-nil a.trail) ∙ ap (λ es. a.trail ++ es) (sym none)))
      at false running =
          let new = groups-in a.shadow.settled _ past (joined (settled_of calls)) (out_of calls) a.shadow.queue entries (settled-handles shape calls a s running) is.follow are in
          call-by shape calls a s (Settled entries (Ok tt)) (settled_to past entries a) refl refl refl (settled-sound a s.sound past entries is) ((event.Settle (length entries), Ok Plain) ∷ s.log) (after_event s.machine (event.Settle (length entries)))
          (tied-settles a s.log s.machine s.tied running past entries is (subst (λ gs. AreOfFirst gs entries) (sym s.out) are)) s.stops
          (λ i. s.settled i ++ take (length entries) (s.out i))
          (ap (drop (length entries)) s.out)
          (ap (λ gs. settled_of calls ++ gs) (new ∙ ap (λ stops. map (handles_in stops) entries) (handles-all shape calls a s running))
          ∙ ap (λ gs. gs ++ map (handles_in (stops_of calls)) entries) s.trail ∙ sym (map-append (handles_in (stops_of calls)) a.trail entries))

  call-failed : Stands shape (Failed ∷ calls) (failed_of a)
  call-failed = at a.aborted refl
    where
      at : (b : Bool) → a.aborted ≡ b → Stands shape (Failed ∷ calls) (failed_of a)
      at true fell =
          call-on shape calls a s Failed (failed_of a) refl refl refl refl refl (failed-sound a s.sound) s.log s.machine
          (tied-fails-again a s.log s.machine s.tied s.sound fell) s.stops s.settled ((sounds a.shape s.log s.machine s.tied.ran).down (s.tied.failed fell).down).taken
      at false running =
          call-on shape calls a s Failed (failed_of a) refl refl refl refl refl (failed-sound a s.sound) ((event.Crash 0, Ok Plain) ∷ s.log) (after_event s.machine (event.Crash 0))
          (tied-fails a s.log s.machine s.tied running) s.stops (append-nil s.machine.settled ∙ s.settled) refl

  -- ---- what is promised

  keeps-whole : KeepsWhole shape calls a
  keeps-whole =
      let (rest, first) = left a.aborted refl in
      record { same_shape = s.same_shape; numbered = s.numbered; counted = s.counted; running = handles-all shape calls a s; rest = rest; first = first; trail = s.trail }
    where
      left : (b : Bool) → a.aborted ≡ b → (rest : List Stopped) × (joined (settled_of calls) ++ rest ≡ stops_of calls)
      left false running = (joined (out_of calls) ++ a.shadow.queue, handles-all shape calls a s running)
      left true fell =
          let (rest, is) = (whole a.shape s.log s.machine s.tied.ran).crashed (s.tied.failed fell).down in
          (rest, ap (λ gs. joined gs ++ rest) (sym s.settled) ∙ ap (λ n. joined (drop n s.machine.settled) ++ rest) (sym s.tied.one_life) ∙ is ∙ s.stops)

-- ---- any list of calls

step : Vec Entry → (shape : Shape) → (last : BookCall) (calls : List BookCall) (old new : Account) → Stands shape calls old → Does last calls old new → Stands shape (last ∷ calls) new
step any shape (Opened seat credits (Ok unit)) calls old new s does = subst (Stands shape _) (sym does.1) (call-opened shape calls old s seat credits does.0)
step any shape (Enqueued seat ws (Ok ticket)) calls old new s does = subst (Stands shape _) (sym does.2) (call-stopped shape calls old s seat ws ticket does.0 does.1)
step any shape (Dropped seat) calls old new s does = subst (Stands shape _) (sym does) (call-dropped shape calls old s seat)
step any shape (Took b cut) calls old new s does =
    subst (Stands shape (Took b cut ∷ calls)) (sym does.3) (subst (λ g. Stands shape (Took g cut ∷ calls) (taken_all old)) (sym does.1) (call-took shape calls old s any cut does.0 (subst (λ g. IsCutOf g cut) does.1 does.2)))
step any shape (Settled entries (Ok unit)) calls old new s does = subst (Stands shape _) (sym does.0.2) (call-settled shape calls old s does.0.0 entries does.0.1 does.1)
step any shape Failed calls old new s does = subst (Stands shape _) (sym does) (call-failed shape calls old s)
step any shape Shut calls old new s does = subst (Stands shape _) (sym does) (call-shut shape calls old s)
step any shape idle calls old new s does = subst (Stands shape _) (sym does.1) (call-idle shape calls old s idle refl refl refl)

begun : (shape : Shape) (usable : ℕ) (a : Account) → usable ≤ 2147483646 → IsNewBook shape usable a → Stands shape [] a
begun shape usable a small start =
    let (m, tied) = tied-starts shape usable a start in
    let is = tied.ran in
    record {
      same_shape = start.same_shape;
      sound = started shape usable a small start;
      log = [];
      machine = m;
      tied = tied;
      stops = refl;
      settled = is.settled;
      out = is.taken;
      numbered = tt;
      counted = ap (λ (s : Shadow). s.next) (sym start.shadow);
      trail = ap (map (handles_in [])) (sym start.trail);
    }

stands : Vec Entry → (shape : Shape) (usable : ℕ) (calls : List BookCall) (a : Account) → usable ≤ 2147483646 → CallsMake shape usable calls a → Stands shape calls a
stands any shape usable [] a small called = begun shape usable a small called
stands any shape usable (last ∷ earlier) a small (before, called, does) = step any shape last earlier before a (stands any shape usable earlier before small called) does

pub every_run : EveryRun
every_run any shape usable calls a small called =
    let s = stands any shape usable calls a small called in
    (keeps-whole shape calls a s, (s.log, s.machine, record { tied = s.tied; stops = s.stops; settled = s.settled; out = s.out }))

-- ---- which groups are settled

-- entries from the first ticket that is not settled end where the last of them does
pub ends-at : (first settled least past end : ℕ) (es : List Entry) → Follow settled least past es → first ≡ settled → past_after first es ≡ end → past ≡ end
ends-at first settled least past end es is at last = sym (follow-past settled least past es is) ∙ ap (λ n. past_after n es) (sym at) ∙ last

module _ (a b : Account) (end : ℕ) (shape : Shape) (done : Done) where
  pub settles-out : IsOutAs a (first_ticket done) end shape → past_after (first_ticket done) (entries_of done) ≡ end → (past : ℕ) × Settles a past (entries_of done) × (b ≡ settled_to past (entries_of done) a) → SettlesOrFails end shape done a (Ok tt) b
  settles-out out last (past, settles, is) =
      let whole = ends-at (first_ticket done) a.shadow.settled _ past end (entries_of done) settles.follow out.first_is last in
      (out, subst (λ n. Settles a n (entries_of done)) whole settles, is ∙ ap (λ n. settled_to n (entries_of done) a) whole)

  -- groups that settle all of the batch end where it does
  pub ends-whole : IsOutAs a (first_ticket done) end shape → Settles a end (entries_of done) → past_after (first_ticket done) (entries_of done) ≡ end
  ends-whole out settles = ap (λ n. past_after n (entries_of done)) out.first_is ∙ follow-past a.shadow.settled _ end (entries_of done) settles.follow

  -- where it is not this one, or not whole, the book fails
  pub none-whole : (wrong : WrongBatch) (whole : Bool) → (IsTrue whole ↔ (IsOutAs a (first_ticket done) end shape × (past_after (first_ticket done) (entries_of done) ≡ end))) → whole ≡ false → b ≡ failed_of a → SettlesOrFails end shape done a (Err wrong) b
  none-whole wrong true is not fell = cc
  none-whole wrong false is not fell = (λ out settles. cc (is.1 (out, ends-whole out settles)), fell)

module _ (a middle b : Account) (end : ℕ) (shape : Shape) (done : Done) (out : IsOutAs a (first_ticket done) end shape) where
  pub fails-after : (r : Result (Unit {0}) WrongBatch) → OnOk r ((past : ℕ) × Settles a past (entries_of done) × (middle ≡ settled_to past (entries_of done) a)) → OnErr r ((past : ℕ) → Settles a past (entries_of done) → ⊥) → OnErr r (middle ≡ a) → b ≡ failed_of middle → FailsAfter end shape done a r b
  fails-after (Ok unit) ok wrong err fell = (out, (ok.0, ok.1, fell ∙ ap failed_of ok.2))
  fails-after (Err fault) ok wrong err fell = (λ _. wrong, fell ∙ ap failed_of err)

-- ---- what is known of a book that ends

-- the calls that led to a book are a run of the machine (the Vec is any: an event has its bounds in one)
pub ends-run : Vec Entry → (a : Account) (log : List WordMap) → IsAccountSound a → IsLed log a → IsMachineRun a.shape log a.trail
ends-run any a log sound is =
    let some = any-led log a is a.aborted refl in
    let l = some.2 in
    let all = every_run any a.shape a.usable l.calls (with_trail l.full a) sound.small l.called in
    let run = all.1.2 in
    record {
      events = all.1.0;
      machine = all.1.1;
      ran = run.tied.ran;
      accepted = run.tied.accepted;
      one_life = run.tied.one_life;
      stops = ap words_stopped run.stops ∙ l.stops;
      full = l.full;
      left = l.left;
      settled = run.settled ∙ all.0.trail ∙ ap (λ hs. map (handles_in hs) l.full) (sym run.stops);
    }

-- ---- what is known of the two

-- a book and its history become these
kept-as : {a b : Account} {log more : List WordMap} → IsLed log a → length log ≡ a.shadow.next → a.changes ≡ changes_in log → All (IsInHistory log) a.shadow.queue → b ≡ a → more ≡ log → IsRegistered b more
kept-as led counted touched queued is same =
    subst (λ (x : Account × List WordMap). IsRegistered x.0 x.1) (λ i. (sym is i, sym same i)) (record { counted = counted; touched = touched; queued = queued; led = led })

pub kept-new : (shape : Shape) (usable : ℕ) (a : Account) (log : List WordMap) → IsNewBook shape usable a → log ≡ [] → IsRegistered a log
kept-new shape usable a log start none =
    kept-as (led_start shape usable a start) (sym (ap (λ x. x.next) start.shadow)) start.changes
    (subst (All (IsInHistory [])) (sym (ap (λ x. x.queue) start.shadow)) (All-nil (IsInHistory []))) refl none

failed-same : {a b : Account} {log more : List WordMap} → IsRegistered a log → b ≡ failed_of a → more ≡ log → IsRegistered b more
failed-same {a} {log = log} kept is same = kept-as (led-failed log a kept.led) kept.counted kept.touched (All-nil (IsInHistory log)) is same

module _ {a : Account} {log prefix : List WordMap} {end : ℕ} {shape : Shape} {done : Done}
    (is : IsSettling prefix end shape done) (seen : IsFirstPart prefix log) (out : IsOutAs a (first_ticket done) end shape) where
  abbrev settling-cut : AreCut log a is.planned.batch.handles is.planned.groups
  settling-cut =
      let at : is.planned.batch.first ≡ a.shadow.settled = sym is.first ∙ out.first_is in (
        record {
          tickets = subst (λ n. TicketsFrom n is.planned.batch.handles) at is.tickets;
          recorded = recorded-on prefix log seen is.planned.batch.handles is.recorded;
          number = omega (arith, at);
        },
        subst (λ (sh : Shape). IsLeastCut (cost_in sh is.planned.batch.handles) sh.limit (length is.planned.batch.handles) is.planned.groups) (is.shape_is ∙ sym out.shape_is) is.is.least,
      )

  pub kept-settled : {b : Account} {more : List WordMap} → IsAccountSound a → IsRegistered a log → (past : ℕ) → Settles a past (entries_of done)
      → past_after (first_ticket done) (entries_of done) ≡ end → b ≡ settled_to past (entries_of done) a → more ≡ log → IsRegistered b more
  kept-settled sound kept past settles last after grows =
      let whole = ends-at (first_ticket done) a.shadow.settled _ past end (entries_of done) settles.follow out.first_is last in
      kept-as
      (led-settled log a kept.led is.planned.batch.handles is.planned.groups past (entries_of done) settles settling-cut is.tells sound (whole ∙ out.end_is)) kept.counted kept.touched kept.queued after grows

  pub kept-last : (middle b : Account) (more : List WordMap) (r : Result (Unit {0}) WrongBatch) → IsAccountSound a → IsRegistered a log → OnOk r ((past : ℕ) × Settles a past (entries_of done) × (middle ≡ settled_to past (entries_of done) a)) → OnErr r (middle ≡ a) → b ≡ failed_of middle → more ≡ log → IsRegistered b more
  kept-last middle b more (Ok unit) sound kept ok err fell grows =
      kept-as
      (led-settled-last log a kept.led is.planned.batch.handles is.planned.groups ok.0 (entries_of done) ok.1 settling-cut is.tells sound) kept.counted kept.touched (All-nil (IsInHistory log)) (fell ∙ ap failed_of ok.2) grows
  kept-last middle b more (Err wrong) sound kept ok err fell grows = failed-same kept (fell ∙ ap failed_of err) grows

-- ---- the other calls keep a register: a book beside its history, and the marks that were seen of its journal

module _ {D : Type 0} {ms : List (OpenDeck D)} {a : Account} {log more : List WordMap} (kept : IsRegistered a log × AreOfBook ms a) (same : more ≡ log) where
  -- more marks were seen
  pub both-same : {ns : List (OpenDeck D)} → IsPrefix ms ns → IsRegistered a more × AreOfBook ns a
  both-same {ns} p = (subst (IsRegistered a) (sym same) kept.0, book-on ms ns p a kept.1)

  module _ {b : Account} where
    -- the book becomes one with the same trail
    both-as : {c : Account} → IsLed log c → length log ≡ c.shadow.next → c.changes ≡ changes_in log → All (IsInHistory log) c.shadow.queue → c.trail ≡ a.trail → c.shape ≡ a.shape → b ≡ c → IsRegistered b more × AreOfBook ms b
    both-as {c} led counted touched queued trail shape is = (kept-as led counted touched queued is same, marked-same ms a b kept.1 c trail shape is)

    pub both-open : (r : Result (Unit {0}) BeginFault) (seat credits : ℕ) → OnOk r (b ≡ granted_to seat credits a) → OnOk r (begin_refusal a seat credits ≡ None) → OnErr r (b ≡ a)
        → IsRegistered b more × AreOfBook ms b
    both-open (Ok unit) seat credits is none err = both-as (led-opened log a kept.0.led seat credits none) kept.0.counted kept.0.touched kept.0.queued refl refl is
    both-open (Err fault) seat credits is none err = both-as kept.0.led kept.0.counted kept.0.touched kept.0.queued refl refl err

    pub both-take : (r : Option Gathered) → IsAccountSound a → IfSome r (λ _. HasCut a.shape a.shadow.queue) → IfSome r (λ _. CanTake a × (b ≡ taken_all a)) → IfNone r ((CanTake a → ⊥) × (b ≡ a))
        → IsRegistered b more × AreOfBook ms b
    both-take (Some batch) sound cuts taken none = both-as (led-taken log a kept.0.led sound taken.0 kept.0.queued cuts) kept.0.counted kept.0.touched (All-nil (IsInHistory log)) refl refl taken.1
    both-take None sound cuts taken none = both-as kept.0.led kept.0.counted kept.0.touched kept.0.queued refl refl none.1

    pub both-dropped : (seat : ℕ) → b ≡ dropped_of seat a → IsRegistered b more × AreOfBook ms b
    both-dropped seat is = both-as (led-dropped log a kept.0.led seat) kept.0.counted kept.0.touched kept.0.queued refl refl is

    pub both-shut : b ≡ record a { shut = true } → IsRegistered b more × AreOfBook ms b
    both-shut is = both-as (led-shut log a kept.0.led) kept.0.counted kept.0.touched kept.0.queued refl refl is

    pub both-short : (past : ℕ) → b ≡ shortened past a → IsRegistered b more × AreOfBook ms b
    both-short past is = (kept-as (led-shortened log a kept.0.led past) kept.0.counted kept.0.touched kept.0.queued is same, marked-short ms a b kept.1 past is)

    pub both-failed : {ns : List (OpenDeck D)} → IsPrefix ms ns → b ≡ failed_of a → IsRegistered b more × AreOfBook ns b
    both-failed {ns} p is = (failed-same kept.0 is same, marked-same ns a b (book-on ms ns p a kept.1) (failed_of a) refl refl is)

-- one handle more has stopped
changes-more : (log : List WordMap) (ws : WordMap) → changes_in (log ++ ws ∷ []) ≡ changes_in log + map_of.len ws
changes-more log ws = ap (sum_by changed_by) (placed_snoc 0 log ws) ∙ sum_by_push changed_by (with_places 0 log) (0 + length log, ws)

-- a handle stops
pub both-stopped : {D : Type 0} {ms : List (OpenDeck D)} {a b : Account} {log more : List WordMap} → IsRegistered a log × AreOfBook ms a
    → (seat : ℕ) (ws : WordMap) → IsAccountSound a → CanStop a seat ws → b ≡ queued seat ws a
    → (b.shadow.queue ≡ a.shadow.queue ++ record { ticket = a.shadow.next; words = ws } ∷ [] → more ≡ log ++ ws ∷ []) → IsRegistered b more × AreOfBook ms b
both-stopped {ms = ms} {a} {b} {log} kept seat ws sound can is adds =
    let long = length-append log (ws ∷ []) in
    let counted = kept.0.counted in (
      kept-as (led-stopped log a kept.0.led sound seat ws can counted) (omega (arith, long, counted))
          (ap (λ n. n + map_of.len ws) kept.0.touched ∙ sym (changes-more log ws))
          (recorded-more log a.shadow.queue a.shadow.next ws kept.0.queued counted) is (adds (ap (λ (c : Account). c.shadow.queue) is)),
      marked-same ms a b kept.1 (queued seat ws a) refl refl is,
    )
