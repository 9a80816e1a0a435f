-- Each call of a book keeps that there are calls which led to it.
use Rattle.std.proofs.Common.{◌≡◌, ℕ, ◌+◌, ◌-◌, Bool, true, false, List, [], ◌∷◌, ◌++◌, All, length, drop, None, Ok, sym, refl, ap, ◌∙◌, subst, arith}
use Rattle.std.proofs.lemmas.List.{map-append}
use Rattle.std.proofs.lemmas.List.Elements.{All-drop}
use Rattle.jb_plan.specs.Batch.{gathered}
use Rattle.jb_plan.specs.Costs.{HasCut}
use Rattle.jb_cost.specs.Pieces.{joined, pieces}
use Rattle.jb_core.proofs.AcceptedEvents.{none-left, still-up}
use Rattle.jb_deck.specs.declared.done.Entry.{Entry}
use Rattle.jb_deck.specs.Done.{Follow}
use Rattle.jb_handle.specs.declared.shape.Shape.{Shape}
use Rattle.jb_handle.specs.declared.stopped.Stopped.{Stopped}
use Rattle.jb_handle.specs.Tickets.{TicketsFrom}
use Rattle.jb_handle.specs.Word.{WordMap}
use Rattle.jb_cost.specs.Credits.{IsMost}
use Rattle.jb_plan.specs.Costs.{geometry_of}
use Rattle.jb_book.specs.Account.{Account, IsNewBook, IsAccountSound, granted_to, dropped_of, queued, taken_all, settled_to, failed_of, shortened, trail_from, begin_refusal, CanStop, CanTake, Settles}
use Rattle.jb_book.specs.Calls.{BookCall, Does, Opened, Enqueued, Dropped, Took, Settled, Failed, Shut, stops_of, out_of, AreOfFirst, IsCutOf}
use Rattle.jb_book.specs.CallsToBook.{IsInHistory, with_trail, words_stopped, Led, AreCut, IsLed}
use Rattle.jb_cost.proofs.ListPieces.{cut-joined}
use Rattle.jb_book.specs.MachineTie.{HasHandle}
use Rattle.jb_book.proofs.Shadows.{count-parts}
use Rattle.jb_book.proofs.LeastCut.{has_least}
use Rattle.jb_book.proofs.MachineLimits.{first-few, none-filled, filled-pieces}
use Rattle.jb_book.proofs.TrailEntries.{follow-length}
use Rattle.jb_book.proofs.ShownTickets.{least-same, none-are, none-out, none-pieces, recorded-back, recorded-on, rest-from, rest-more, rest-of-rest, same-out}

-- ---- the start

pub led_start : (shape : Shape) (usable : ℕ) (a : Account) → IsNewBook shape usable a → IsLed [] a
led_start shape usable a start =
    let settled : a.shadow.settled ≡ 0 = ap (λ s. s.settled) start.shadow in
    let taken : a.shadow.taken ≡ 0 = ap (λ s. s.taken) start.shadow in
    record {
      some = λ up. none-out [] a (settled ∙ sym taken);
      led = λ hs cut p. (
          let are = p start.aborted in
          record {
            calls = [];
            full = a.trail;
            left = record { front = []; is = refl; last = λ none. none };
            called = (let most : IsMost (geometry_of a.shape) a.shape.limit a.most = subst (λ (s : Shape). IsMost (geometry_of s) s.limit a.most) (sym start.same_shape) start.most in assumption);
            stops = refl;
            out = λ up. sym (none-pieces hs cut (omega (arith, settled, taken)) are.1.fitting.cut);
          });
    }

-- ---- the calls

-- the account with these seats, where so much was granted
abbrev seated : List (ℕ × ℕ) → ℕ → Bool → Account → Account
seated seats granted shut a = record a { shadow = record a.shadow { seats = seats }; granted = granted; shut = shut }

module _ (log : List WordMap) (a : Account) (is : IsLed log a) where
  -- a call more that may change the seats, what is granted and whether the book is shut
  led-seated : (c : BookCall) (seats : List (ℕ × ℕ)) (granted : ℕ) (shut : Bool) → ((calls : List BookCall) → (stops_of (c ∷ calls) ≡ stops_of calls) × (out_of (c ∷ calls) ≡ out_of calls))
      → ((calls : List BookCall) (full : List Entry) → Does c calls (with_trail full a) (with_trail full (seated seats granted shut a))) → IsLed log (seated seats granted shut a)
  led-seated c seats granted shut same does = record {
    some = λ up. let s = is.some up in record { handles = s.handles; cut = s.cut; are = s.are };
    led = λ hs cut p. (let l = is.led hs cut p in record {
      calls = c ∷ l.calls;
      full = l.full;
      left = l.left;
      called = (with_trail l.full a, l.called, does l.calls l.full);
      stops = ap words_stopped (same l.calls).0 ∙ l.stops;
      out = λ up. (same l.calls).1 ∙ l.out up;
    });
  }

  pub led-opened : (seat credits : ℕ) → begin_refusal a seat credits ≡ None → IsLed log (granted_to seat credits a)
  led-opened seat credits none = led-seated (Opened seat credits (Ok tt)) (granted_to seat credits a).shadow.seats (a.granted + credits) a.shut (λ calls. (refl, refl)) (λ calls full. (none, refl))

  pub led-dropped : (seat : ℕ) → IsLed log (dropped_of seat a)
  led-dropped seat = led-seated (Dropped seat) (dropped_of seat a).shadow.seats a.granted a.shut (λ calls. (refl, refl)) (λ calls full. refl)

  pub led-shut : IsLed log (record a { shut = true })
  led-shut = led-seated Shut a.shadow.seats a.granted true (λ calls. (refl, refl)) (λ calls full. refl)

  -- entries are taken from the front of the trail
  pub led-shortened : (past : ℕ) → IsLed log (shortened past a)
  led-shortened past = record {
    some = λ up. let s = is.some up in record { handles = s.handles; cut = s.cut; are = s.are };
    led = λ hs cut p. (let l = is.led hs cut p in record {
      calls = l.calls;
      full = l.full;
      left = rest-of-rest (trail_from past a.trail) a.trail l.full (rest-from past a.trail) l.left;
      called = l.called;
      stops = l.stops;
      out = l.out;
    });
  }

  -- some calls led here, whatever is out
  pub any-led : (b : Bool) → a.aborted ≡ b → (hs : List Stopped) × (cut : List ℕ) × Led log a hs cut
  any-led true fell = ([], 0 ∷ [], is.led [] (0 ∷ []) (λ up. still-up a.aborted fell up))
  any-led false up = let s = is.some up in (s.handles, s.cut, is.led s.handles s.cut (λ _. s.are))

  pub led-failed : IsLed log (failed_of a)
  led-failed = record {
    some = λ up. still-up true refl up;
    led = λ hs cut p. (let any = any-led a.aborted refl in let l = any.2 in record {
      calls = Failed ∷ l.calls;
      full = l.full;
      left = l.left;
      called = (with_trail l.full a, l.called, refl);
      stops = l.stops;
      out = λ up. still-up true refl up;
    });
  }

  pub led-stopped : IsAccountSound a → (seat : ℕ) (ws : WordMap) → CanStop a seat ws → length log ≡ a.shadow.next → IsLed (log ++ ws ∷ []) (queued seat ws a)
  led-stopped sound seat ws can long =
      record {
        some = λ up. (let s = is.some up in record {
          handles = s.handles;
          cut = s.cut;
          are = (
            record {
              tickets = s.are.0.tickets;
              recorded = recorded-on log (log ++ ws ∷ []) (ws ∷ [], refl) s.handles s.are.0.recorded;
              number = s.are.0.number;
            },
            s.are.1,
          );
        });
        led = λ hs cut p. (
            let before : a.aborted ≡ false → AreCut log a hs cut = λ up. (
            let are = p up in (
              record { tickets = are.0.tickets; recorded = recorded-back log (ws ∷ []) a.shadow.settled hs are.0.tickets (omega arith) are.0.recorded; number = are.0.number },
              are.1,
            )) in
            let l = is.led hs cut before in
            record {
              calls = Enqueued seat ws (Ok a.shadow.next) ∷ l.calls;
              full = l.full;
              left = l.left;
              called = (with_trail l.full a, l.called, ((can.0, (can.1.0, (assumption))), refl, refl));
              stops = map-append (λ (h : Stopped). h.words) (stops_of l.calls) (record { ticket = a.shadow.next; words = ws } ∷ []) ∙ ap (λ xs. xs ++ ws ∷ []) l.stops;
              out = l.out;
            });
      }

  pub led-taken : IsAccountSound a → CanTake a → All (IsInHistory log) a.shadow.queue → HasCut a.shape a.shadow.queue → IsLed log (taken_all a)
  led-taken sound can recorded cuts =
      let tickets : TicketsFrom a.shadow.settled a.shadow.queue = subst (λ n. TicketsFrom n a.shadow.queue) can.free (sound.running can.running).tickets in
      let least = has_least (gathered a.shadow.settled a.shadow.queue a.shape) cuts in
      record {
        some = λ up. record {
          handles = a.shadow.queue;
          cut = least.0;
          are = (record { tickets = tickets; recorded = recorded; number = (let h : a.shadow.settled + length a.shadow.queue ≡ a.shadow.taken + length a.shadow.queue = omega arith in h) }, least.1);
        };
        led = λ hs cut p. (
            let are = p can.running in
            let same : hs ≡ a.shadow.queue = same-out log a.shadow.settled hs a.shadow.queue are.0.tickets tickets are.0.recorded recorded (omega arith) in
            let l = is.led [] (0 ∷ []) (λ _. none-are log a (sym can.free)) in
            record {
              calls = Took (gathered a.shadow.taken a.shadow.queue a.shape) cut ∷ l.calls;
              full = l.full;
              left = l.left;
              called = (with_trail l.full a, l.called, (record { running = can.running; free = can.free; some = can.some }, refl, subst (λ q. IsCutOf (gathered a.shadow.taken q a.shape) cut) same are.1, refl));
              stops = l.stops;
              out = λ up. ap (pieces cut) (sym same);
            });
      }

  -- what a batch has become, for a book that runs: groups of the batch that is out
  module _ (hs : List Stopped) (cut : List ℕ) (past : ℕ) (entries : List Entry) (settles : Settles a past entries) (are : AreCut log a hs cut) (first : AreOfFirst (pieces cut hs) entries) where
    settles-whole : (l : Led log a hs cut) → Settles (with_trail l.full a) past entries
    settles-whole l = record { follow = subst (λ n. Follow a.shadow.settled n past entries) (least-same a.trail l.full l.left) settles.follow; within = settles.within }

    of-out : IsAccountSound a → (b : Bool) → a.aborted ≡ b → (l : Led log a hs cut) → AreOfFirst (out_of l.calls) entries
    of-out sound false up l = subst (λ gs. AreOfFirst gs entries) (sym (l.out up)) first
    of-out sound true fell l =
        let gone = (sound.failed fell).taken in
        let long = follow-length a.shadow.settled _ past entries settles.follow in
        subst (λ es. AreOfFirst (out_of l.calls) es) (sym (none-left entries (omega (arith, gone, long)))) tt

    -- no handle is out once all of them are settled
    none-rest : past ≡ a.shadow.taken → (hs' : List Stopped) (cut' : List ℕ) → AreCut log (settled_to past entries a) hs' cut' → drop (length entries) (pieces cut hs) ≡ pieces cut' hs'
    none-rest whole hs' cut' are' =
        let both = first-few a.shadow.settled _ past (pieces cut hs) entries settles.follow first in
        let long = follow-length a.shadow.settled _ past entries settles.follow in
        let none : length hs' ≡ 0 = omega (arith, whole, long) in
        let filled = All-drop HasHandle (length entries) (pieces cut hs) (filled-pieces hs cut are.1.fitting.cut) in
        let all = count-parts (length entries) (pieces cut hs) in
        let total : length (joined (pieces cut hs)) ≡ length hs = ap length (cut-joined cut hs are.1.fitting.cut) in
        none-filled (drop (length entries) (pieces cut hs)) filled (omega (arith, all, total, whole)) ∙ sym (none-pieces hs' cut' none are'.1.fitting.cut)

    pub led-settled : IsAccountSound a → past ≡ a.shadow.taken → IsLed log (settled_to past entries a)
    led-settled sound whole =
        let long = follow-length a.shadow.settled _ past entries settles.follow in
        record {
          some = λ _. none-out log (settled_to past entries a) (let h : a.shadow.settled + (past - a.shadow.settled) ≡ a.shadow.taken = omega (arith, long, whole) in h);
          led = λ hs' cut' p. (let l = is.led hs cut (λ _. are) in record {
            calls = Settled entries (Ok tt) ∷ l.calls;
            full = l.full ++ entries;
            left = rest-more a.trail l.full entries l.left;
            called = (with_trail l.full a, l.called, ((past, settles-whole l, refl), of-out sound a.aborted refl l));
            stops = l.stops;
            out = λ run. ap (drop (length entries)) (l.out run) ∙ none-rest whole hs' cut' (p run);
          });
        }

    -- settled in part, and failed under the same lock
    pub led-settled-last : IsAccountSound a → IsLed log (failed_of (settled_to past entries a))
    led-settled-last sound = record {
      some = λ up. still-up true refl up;
      led = λ hs' cut' p. (let l = is.led hs cut (λ _. are) in record {
        calls = Failed ∷ Settled entries (Ok tt) ∷ l.calls;
        full = l.full ++ entries;
        left = rest-more a.trail l.full entries l.left;
        called = (with_trail (l.full ++ entries) (settled_to past entries a), (with_trail l.full a, l.called, ((past, settles-whole l, refl), of-out sound a.aborted refl l)), refl);
        stops = l.stops;
        out = λ up. still-up true refl up;
      });
    }
