-- The groups that the entries of a round tell of.
use Rattle.std.proofs.Common.{◌≡◌, ℕ, ◌+◌, ◌<◌, false, List, [], ◌∷◌, length, get_or, refl, sym, ap, ap₂, ◌∙◌, arith}
use Rattle.std.proofs.lemmas.List.Elements.{All-nil, All-cons}
use Rattle.jb_disk.specs.declared.disk.Disk.{Ghosts}
use Rattle.jb_handle.specs.declared.stopped.Stopped.{Stopped}
use Rattle.jb_cost.specs.Cut.{IsCut, IsLeastCut}
use Rattle.jb_cost.proofs.Cuts.{rises-le}
use Rattle.jb_plan.specs.Batch.{gathered}
use Rattle.jb_plan.specs.Costs.{cost_in}
use Rattle.jb_plan.specs.Prepare.{planned}
use Rattle.jb_deck.specs.Deck.{OpenDeck}
use Rattle.jb_deck.specs.Done.{entries_of, first_ticket}
use Rattle.jb_deck.specs.GroupsOfBatch.{entries_for}
use Rattle.jb_deck.specs.declared.done.Done.{Done}
use Rattle.jb_deck.specs.declared.done.Entry.{Entry}
use Rattle.jb_book.specs.Journal.{CutsBatch}
use Rattle.jb_book.specs.Origin.{unknown}
use Rattle.jb_book.specs.Since.{IsCosted, WasGiven, may_stop}
use Rattle.proof_clients.specs.Examples.{six}
use Rattle.proof_clients.specs.ExampleCalls.{entry_of}
use Rattle.proof_clients.proofs.ExampleIdle.{idle, one-idle}

-- a cut of some handles has a group
pub some-entry : (c : ℕ → ℕ → ℕ) (ticket number n : ℕ) (groups : List ℕ) → IsCut n groups → 0 < n → entries_for c ticket number groups ≡ [] → ⊥
some-entry c ticket number n [] cut some is = cut
some-entry c ticket number n (a ∷ []) cut some is = omega (arith, cut.0, cut.1, some)
some-entry c ticket number n (a ∷ b ∷ bs) cut some is = let one = ap length is in omega (arith, one)

-- two groups, and where they meet
pub record TwoGroups (ticket number n : ℕ) (groups : List ℕ) (one two : Entry) : Type 0 where
  pub middle : ℕ
  pub are : groups ≡ 0 ∷ middle ∷ n ∷ []
  pub past : ticket + middle ≡ one.past
  pub last : ticket + n ≡ two.past
  pub number_one : number ≡ one.number
  pub number_two : number + 1 ≡ two.number

pub two-groups : (c : ℕ → ℕ → ℕ) (ticket number n : ℕ) (groups : List ℕ) (one two : Entry) → IsCut n groups → one ∷ two ∷ [] ≡ entries_for c ticket number groups → TwoGroups ticket number n groups one two
two-groups c ticket number n [] one two cut is = absurd cut
two-groups c ticket number n (a ∷ []) one two cut is = absurd (let long : 2 ≡ 0 = ap length is in omega (arith, long))
two-groups c ticket number n (a ∷ b ∷ []) one two cut is = absurd (let long : 2 ≡ 1 = ap length is in omega (arith, long))
two-groups c ticket number n (a ∷ b ∷ d ∷ []) one two cut is = record {
  middle = b;
  are = ap₂ (λ x y. x ∷ b ∷ y ∷ []) cut.0 cut.1.1.1;
  past = sym (ap (λ (l : List Entry). (get_or l 0 one).past) is);
  last = ap (λ x. ticket + x) (sym cut.1.1.1) ∙ sym (ap (λ (l : List Entry). (get_or l 1 one).past) is);
  number_one = sym (ap (λ (l : List Entry). (get_or l 0 one).number) is);
  number_two = sym (ap (λ (l : List Entry). (get_or l 1 one).number) is);
}
two-groups c ticket number n (a ∷ b ∷ d ∷ f ∷ bs) one two cut is = absurd (let long = ap length is in omega (arith, long))

-- ---- a round of one handle that changed nothing

abbrev only : List Stopped
only = idle 0 ∷ []

abbrev own : ℕ → ℕ → ℕ
own = cost_in six only

-- one handle has one cut
one-cut : (other : List ℕ) → IsCut 1 other → other ≡ 0 ∷ 1 ∷ []
one-cut [] cut = absurd cut
one-cut (a ∷ []) cut = absurd (let h : ⊥ = omega (arith, cut.0, cut.1) in h)
one-cut (a ∷ b ∷ []) cut = ap₂ (λ x y. x ∷ y ∷ []) cut.0 cut.1.1
one-cut (a ∷ b ∷ d ∷ []) cut = absurd (let h : ⊥ = omega (arith, cut.0, cut.1.0, cut.1.1.0, cut.1.1.1) in h)
one-cut (a ∷ b ∷ d ∷ f ∷ bs) cut = absurd (let h : ⊥ = omega (arith, cut.0, cut.1.0, cut.1.1.0, rises-le 1 d (f ∷ bs) cut.1.1.1) in h)

costs-one : own 0 1 ≡ 1
costs-one = one-idle 0

least-one : IsLeastCut own 6 1 (0 ∷ 1 ∷ [])
least-one = record {
  fitting = record { cut = (refl, (omega arith, refl)); fits = (omega (arith, costs-one), tt) };
  least = λ other fitting. rw (one-cut other fitting.cut) (omega arith);
}

module _ {D : Type 0} (G : Ghosts D) (d : OpenDeck D) where
  abbrev before : OpenDeck D
  before = record { disk = d.disk; log = record d.log { next = 7 }; groups = d.groups; shape = six; trail = []; aborted = false }

  abbrev after : OpenDeck D
  after = record { disk = d.disk; log = record d.log { next = 8 }; groups = d.groups; shape = six; trail = entry_of 7 0 1 1 ∷ []; aborted = false }

  given-none : WasGiven (may_stop unknown) [] (0 ∷ []) before
  given-none = record {
    stopped = All-nil (may_stop unknown);
    tickets = tt;
    settled = omega arith;
    all = λ up. refl;
    cut = (refl, refl);
    groups = record { early = []; late = []; is = refl; all = λ up. refl };
    costs = All-nil (IsCosted six []);
    first = 7;
    numbers = tt;
    next = refl;
  }

  given-one : WasGiven (may_stop unknown) only (0 ∷ 1 ∷ []) after
  given-one = record {
    stopped = All-cons (may_stop unknown) (idle 0) [] tt (All-nil (may_stop unknown));
    tickets = (refl, tt);
    settled = omega arith;
    all = λ up. refl;
    cut = (refl, (omega arith, refl));
    groups = record { early = []; late = []; is = refl; all = λ up. refl };
    costs = All-cons (IsCosted six only) (entry_of 7 0 1 1) [] (record { some = omega arith; within = omega arith; blocks = sym costs-one }) (All-nil (IsCosted six only));
    first = 7;
    numbers = (refl, tt);
    next = refl;
  }

  pub cuts-one : (done : Done) → first_ticket done ≡ 0 → entries_of done ≡ entry_of 7 0 1 1 ∷ [] → CutsBatch G unknown (planned (gathered 0 only six) (0 ∷ 1 ∷ []) 1 []) done
  cuts-one done first are = record {
    least = least-one;
    old = before;
    new = after;
    takes = record { up = refl; ticket = refl; shape = refl; numbers = omega arith };
    first = first;
    entries = are ∙ ap (λ n. entry_of 7 0 1 n ∷ []) (sym costs-one);
    trail = sym are;
    next = refl;
    up = refl;
    before = record { given = []; bounds = 0 ∷ []; has = given-none; since = λ known honest. absurd known; asked = λ none few. absurd none };
    after = record { given = only; bounds = 0 ∷ 1 ∷ []; has = given-one; since = λ known honest. absurd known; asked = λ none few. absurd none };
    adds = refl;
  }
