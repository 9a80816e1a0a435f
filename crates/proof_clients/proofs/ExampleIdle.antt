-- Three handles that changed nothing, of which two are settled: the events, and how a desk ends with them.
use Rattle.std.proofs.Common.{◌≡◌, ℕ, zero, suc, ◌<◌, ◌≤◌, true, false, List, [], ◌∷◌, Ok, Vec, Global, refl, sym, ap, subst, arith, rules}
use Rattle.std.specs.FinMap as map
use Rattle.std.proofs.lemmas.List.Elements.{All-nil, All-cons}
use Rattle.jb_disk.specs.declared.disk.Disk.{Ghosts}
use Rattle.jb_handle.specs.Word.{WordMap}
use Rattle.jb_handle.specs.declared.stopped.Stopped.{Stopped}
use Rattle.jb_handle.proofs.RisingHomes.{view-empty}
use Rattle.jb_cost.specs.declared.geometry.Geometry.{Geometry}
use Rattle.jb_cost.specs.Cost.{cost}
use Rattle.jb_cost.specs.Credits.{IsMost}
use Rattle.jb_cost.specs.Cut.{IsCut, IsLeastCut, piece_cost, total}
use Rattle.jb_cost.proofs.Ceilings.{ceil-mono}
use Rattle.jb_cost.proofs.Cuts.{rises-le}
use Rattle.jb_plan.specs.Costs.{geometry_of}
use Rattle.jb_core.specs.declared.event.Event.{Event}
use Rattle.jb_core.specs.declared.event.Event.TheVariants.{Open, Stop, Take, Settle}
use Rattle.jb_core.specs.declared.event.Reply.TheVariants.{Plain, Ticket}
use Rattle.jb_core.specs.Lives.{EventLog}
use Rattle.jb_core.specs.Machine.{Machine, after_event, after_take}
use Rattle.jb_core.specs.MachineRuns.{IsNewMachine, RanFromStart}
use Rattle.jb_deck.specs.Deck.{OpenDeck}
use Rattle.jb_board.specs.HistoryRule.{StandsIn}
use Rattle.jb_book.specs.Origin.{unknown}
use Rattle.jb_book.specs.CallsToBook.{IsMachineRun}
use Rattle.jb_book.specs.History.{AreAllStops, CameAbout, IsStop}
use Rattle.jb_book.specs.Since.{IsCosted, WasGiven}
use Rattle.jb_book.specs.SinceMark.{EndsMarked, Lasts}
use Rattle.proof_clients.specs.Examples.{six}
use Rattle.proof_clients.specs.ExampleMarks.{idle_stops, idle_group}
use Rattle.proof_clients.proofs.ExampleCosts.{cost-wrote}

-- a handle that changed nothing
abbrev pub idle : ℕ → Stopped
idle ticket = record { ticket = ticket; words = map.empty }

abbrev pub g : Geometry
g = geometry_of six

pub one-idle : (t : ℕ) → cost g (idle t ∷ []) ≡ 1
one-idle t = subst (λ (w : WordMap). cost g (record { ticket = t; words = w } ∷ []) ≡ 1) view-empty (cost-wrote [] g t ([] ∷ []) (tt, tt))

two-idle : cost g (idle 0 ∷ idle 1 ∷ []) ≡ 1
two-idle = subst (λ (w : WordMap). cost g (record { ticket = 0; words = w } ∷ record { ticket = 1; words = w } ∷ []) ≡ 1) view-empty (cost-wrote [] g 0 ([] ∷ [] ∷ []) (tt, (tt, tt)))

-- ---- both in one group is a least cut

abbrev c : ℕ → ℕ → ℕ
c = piece_cost g (idle 0 ∷ idle 1 ∷ [])

-- the first group costs a block, wherever it ends
first-costs : (a b : ℕ) → a ≡ 0 → a < b → b ≤ 2 → c a b ≡ 1
first-costs a zero start less most = absurd (omega arith)
first-costs a (suc zero) start less most = rw start (one-idle 0)
first-costs a (suc (suc zero)) start less most = rw start two-idle
first-costs a (suc (suc (suc b))) start less most = absurd (omega arith)

some-block : (other : List ℕ) → IsCut 2 other → 1 ≤ total c other
some-block [] cut = absurd cut
some-block (a ∷ []) cut = absurd (let h : ⊥ = omega (arith, cut.0, cut.1) in h)
some-block (a ∷ b ∷ bs) cut = let one = first-costs a b cut.0 cut.1.0 (rises-le 2 b bs cut.1.1) in omega (arith, one)

least : IsLeastCut c 6 2 (0 ∷ 2 ∷ [])
least =
    let both : c 0 2 ≡ 1 = two-idle in
    record {
      fitting = record { cut = (refl, (omega arith, refl)); fits = (omega (arith, both), tt) };
      least = λ other fitting. omega (arith, both, some-block other fitting.cut);
    }

-- ---- the machine, after each event

most-four : IsMost g 6 4
most-four = record {
  within = omega arith;
  greatest = λ credits few. omega (arith, ceil-mono 5 credits g.t g.tags, few);
}

abbrev m0 : Machine
m0 = record {
  shape = six;
  geometry = geometry_of six;
  most = 4;
  up = true;
  handles = [];
  queue = [];
  taken = [];
  settled = [];
  earlier = 0;
  checkpointed = 0;
  next = 0;
  credits = [];
}

new : IsNewMachine six m0
new = search (rules, most-four)

-- after some events, the newest of which is first
abbrev after : Machine → List Event → Machine
after m [] = m
after m (e ∷ es) = after_event (after m es) e

abbrev m4 : Machine
m4 = after m0 (Stop 1 ∷ Open 1 0 ∷ Stop 0 ∷ Open 0 0 ∷ [])

abbrev m5 : Machine
m5 = after_take m4 (0 ∷ 2 ∷ [])

abbrev m8 : Machine
m8 = after m5 (Stop 0 ∷ Open 0 0 ∷ Settle 1 ∷ [])

-- the history: three handles without a change
abbrev history : List WordMap
history = map.empty ∷ map.empty ∷ map.empty ∷ []

module _ (bounds : Vec ℕ Global) (are : bounds.items ≡ (0 ∷ 2 ∷ [])) where
  abbrev opened : EventLog
  opened = (Stop 1, Ok (Ticket 1)) ∷ (Open 1 0, Ok Plain) ∷ (Stop 0, Ok (Ticket 0)) ∷ (Open 0 0, Ok Plain) ∷ []

  abbrev events : EventLog
  events = (Stop 0, Ok (Ticket 2)) ∷ (Open 0 0, Ok Plain) ∷ (Settle 1, Ok Plain) ∷ (Take bounds, Ok Plain) ∷ opened

  ran4 : RanFromStart six opened m4
  ran4 = (_, (_, (_, (m0, new, (refl, tt, refl, refl)), (refl, tt, refl, refl)), (refl, tt, refl, refl)), (refl, tt, refl, refl))

  ran5 : RanFromStart six ((Take bounds, Ok Plain) ∷ opened) m5
  ran5 = (m4, ran4, (refl, subst (IsLeastCut c 6 2) (sym are) least, ap (after_take m4) (sym are), refl))

  ran : RanFromStart six events m8
  ran = (_, (_, (m5, ran5, (refl, tt, refl, refl)), (refl, tt, refl, refl)), (refl, tt, refl, refl))

  run : IsMachineRun six history (idle_group ∷ [])
  run = record {
    events = events;
    machine = m8;
    ran = ran;
    accepted = tt;
    one_life = refl;
    stops = refl;
    full = idle_group ∷ [];
    left = record { front = []; is = refl; last = λ none. none };
    settled = refl;
  }

  -- ---- the desk

  pub stopped : AreAllStops history ((0, map.empty) ∷ (2, map.empty) ∷ (1, map.empty) ∷ [])
  stopped = record {
    stand = All-cons (StandsIn history) (0, map.empty) ((2, map.empty) ∷ (1, map.empty) ∷ []) refl (All-cons (StandsIn history) (2, map.empty) ((1, map.empty) ∷ []) refl (All-cons (StandsIn history) (1, map.empty) [] refl (All-nil (StandsIn history))));
    once = λ weight. omega arith;
  }

  module _ {D : Type 0} (G : Ghosts D) (d : OpenDeck D) where
    abbrev ended : OpenDeck D
    ended = record { disk = d.disk; log = record d.log { next = 8 }; groups = d.groups; shape = six; trail = idle_group ∷ []; aborted = false }

    abbrev given : List Stopped
    given = idle 0 ∷ idle 1 ∷ []

    pub was : WasGiven (IsStop unknown history) given (0 ∷ 2 ∷ []) ended
    was = record {
      stopped = All-cons (IsStop unknown history) (idle 0) (idle 1 ∷ []) (tt, refl) (All-cons (IsStop unknown history) (idle 1) [] (tt, refl) (All-nil (IsStop unknown history)));
      tickets = (refl, (refl, tt));
      settled = omega arith;
      all = λ up. refl;
      cut = (refl, (omega arith, refl));
      groups = record { early = []; late = []; is = refl; all = λ up. refl };
      costs = All-cons (IsCosted six given) idle_group [] (record { some = omega arith; within = omega arith; blocks = sym two-idle }) (All-nil (IsCosted six given));
      first = 7;
      numbers = (refl, tt);
      next = refl;
    }

    abbrev pub ends-idle : EndsMarked G unknown idle_stops 3 six d.disk (idle_group ∷ []) [] []
    ends-idle = record {
      ends = record {
        log = history;
        number = refl;
        stopped = stopped;
        deck = ended;
        same_disk = refl;
        same_shape = refl;
        same_trail = refl;
        since = record { given = given; bounds = 0 ∷ 2 ∷ []; has = was; since = λ known honest. absurd known; asked = λ none few. absurd none };
        journal = λ known honest. absurd known;
      };
      knows = (history, refl);
      last = All-nil (Lasts G unknown given (0 ∷ 2 ∷ []) ended);
    }

    pub came-idle : CameAbout G unknown idle_stops six d.disk (idle_group ∷ [])
    came-idle = record { log = history; stopped = stopped; run_shape = six; run = run; runs_as = λ known honest. absurd known }
