use Rattle.std.proofs.Common.{◌≡◌, ℕ, List, [], ◌∷◌, length, refl, sym, ap, subst, arith}
use Rattle.std.proofs.lemmas.List.{length-map}
use Rattle.std.proofs.lemmas.List.Elements.{All-nil}
use Rattle.jb_handle.specs.Word.{WordMap}
use Rattle.jb_handle.specs.declared.shape.Shape.{Shape}
use Rattle.jb_handle.specs.declared.stopped.Stopped.{Stopped}
use Rattle.jb_cost.specs.Credits.{IsMost}
use Rattle.jb_cost.specs.Cut.{IsCut}
use Rattle.jb_cost.proofs.Cuts.{rises-le}
use Rattle.jb_cost.specs.Pieces.{pieces}
use Rattle.jb_plan.specs.Costs.{geometry_of}
use Rattle.jb_book.specs.Account.{Account, IsNewBook}
use Rattle.jb_book.specs.Calls.{stops_of}
use Rattle.jb_book.specs.CallsToBook.{AreCut, IsInHistory, with_trail, words_stopped}
use Rattle.jb_book.specs.Shadow.{Shadow}
use Rattle.jb_book.proofs.RegisterCalls.{every_run}
use Rattle.proof_clients.specs.Examples.{six}
use Rattle.proof_clients.proofs.examples.books.is_led.Goals as goal

-- a book is new in its own shape
own-new : (a : Account) → IsNewBook six 9 a → IsNewBook a.shape a.usable (with_trail a.trail a)
own-new a new = record {
  shadow = new.shadow;
  same_shape = refl;
  same_usable = refl;
  most = subst (λ (s : Shape). IsMost (geometry_of s) s.limit a.most) (sym new.same_shape) new.most;
  granted = new.granted;
  changes = new.changes;
  trail = new.trail;
  shut = new.shut;
  aborted = new.aborted;
}

-- a cut of no handles has no group
no-pieces : (hs : List Stopped) (cut : List ℕ) → length hs ≡ 0 → IsCut (length hs) cut → [] ≡ pieces cut hs
no-pieces [] [] none cut = refl
no-pieces [] (a ∷ []) none cut = refl
no-pieces [] (a ∷ b ∷ bs) none cut = absurd (let few = rises-le 0 b bs cut.1.1 in let h : ⊥ = omega (arith, few, cut.1.0) in h)
no-pieces (h ∷ hs) cut none is = absurd (omega (arith, none))

pub returns-clause-meets : goal.returns-clause-meets
returns-clause-meets c a new =
    let settled : a.shadow.settled ≡ 0 = ap (λ (s : Shadow). s.settled) new.shadow in
    let taken : a.shadow.taken ≡ 0 = ap (λ (s : Shadow). s.taken) new.shadow in
    record {
      some = λ up. record {
        handles = [];
        cut = 0 ∷ [];
        are = (
          record { tickets = tt; recorded = All-nil (IsInHistory []); number = omega (arith, settled, taken) },
          record { fitting = record { cut = (refl, refl); fits = tt }; least = λ other fitting. omega arith },
        );
      };
      led = λ hs cut are.
          let out : AreCut [] a hs cut = are new.aborted in
          let none : length hs ≡ 0 = omega (arith, out.0.number, settled, taken) in
          record {
            calls = [];
            full = a.trail;
            left = record { front = []; is = refl; last = λ empty. empty };
            called = own-new a new;
            stops = refl;
            out = λ up. no-pieces hs cut none out.1.fitting.cut;
          };
    }

pub returns-clause-not_counted : goal.returns-clause-not_counted
returns-clause-not_counted c any a few up two is =
    let out = is.some up in
    let led = is.led out.handles out.cut (λ running. out.are) in
    let keeps = (every_run any a.shape a.usable led.calls (with_trail led.full a) few led.called).0 in
    let one : length (words_stopped (stops_of led.calls)) ≡ 1 = ap (λ (l : List WordMap). length l) led.stops in
    omega (arith, one, length-map (stops_of led.calls) (λ (h : Stopped). h.words), keeps.counted, two)
