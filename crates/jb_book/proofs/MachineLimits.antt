-- The limits of a machine after any events, the seats that its shadow shows, and groups with handles.
use Rattle.std.proofs.Common.{◌≡◌, ℕ, ◌+◌, ◌-◌, ◌<◌, ◌≤◌, Bool, List, [], ◌∷◌, map, length, take, drop, sum, Option, Some, None, All, slice_range, sym, refl, ap, subst, Ok, Err, arith, length-append, length-drop, length-take-le, sum_by, option_map}
use Rattle.std.proofs.lemmas.List.Elements.{All-nil, All-cons}
use Rattle.std.proofs.lemmas.List.Sums.{sum_by-cons}
use Rattle.std.specs.Map.{lookup, remove_entry, values_of}
use Rattle.jb_block.specs.Capacity.{entries_in, tags_in}
use Rattle.jb_block.specs.Size.{bytes_of}
use Rattle.jb_block.specs.Width.{is_wide}
use Rattle.jb_handle.specs.declared.shape.Shape.{Shape}
use Rattle.jb_handle.specs.declared.stopped.Stopped.{Stopped}
use Rattle.jb_handle.specs.HeldChanges.{Held}
use Rattle.jb_cost.specs.Cut.{RisesTo, IsCut}
use Rattle.jb_cost.specs.Pieces.{joined, pieces_from, pieces}
use Rattle.jb_cost.proofs.Cuts.{rises-le}
use Rattle.jb_deck.specs.declared.done.Entry.{Entry}
use Rattle.jb_deck.specs.Done.{Follow}
use Rattle.jb_core.specs.declared.event.Event.{Event}
use Rattle.jb_core.specs.declared.event.Event.TheVariants.{Open}
use Rattle.jb_core.specs.Line.{count}
use Rattle.jb_core.specs.Lives.{EventLog}
use Rattle.jb_core.specs.Machine.{Machine, reserved, after_event}
use Rattle.jb_core.specs.MachineRuns.{RanFromStart}
use Rattle.jb_book.specs.Calls.{AreOfFirst}
use Rattle.jb_book.specs.Events.{granted_in, shadow_of}
use Rattle.jb_book.specs.Shadow.{Shadow}
use Rattle.jb_book.specs.Shadow as shadow
use Rattle.jb_book.specs.MachineTie.{HasHandle}

-- ---- the limits of a machine

pub record HasLimits (shape : Shape) (m : Machine) : Type 0 where
  pub same_shape : m.shape ≡ shape
  pub tags : m.geometry.t ≡ tags_in (is_wide shape.width) (bytes_of shape.bs)
  pub entries : m.geometry.r ≡ entries_in (is_wide shape.width) (bytes_of shape.bs)

after-limits : (shape : Shape) (m : Machine) (e : Event) → HasLimits shape m → HasLimits shape (after_event m e)
after-limits shape m (Open seat credits) was = assumption
after-limits shape m other was = assumption

-- they are those of its start
pub limits : (shape : Shape) (log : EventLog) (m : Machine) → RanFromStart shape log m → HasLimits shape m
limits shape [] m start = assumption
limits shape ((e, Ok reply) ∷ earlier) m (before, ran, step) = subst (HasLimits shape) (sym step.2) (after-limits shape before e (limits shape earlier before ran))
limits shape ((e, Err fault) ∷ earlier) m (before, ran, step) = subst (HasLimits shape) (sym step.1) (limits shape earlier before ran)

-- ---- the seats of a shadow

seats-sum : (es : List (ℕ × Held)) → sum (values_of (map granted_in es)) ≡ sum_by (λ (h : Held). h.credits) (values_of es)
seats-sum [] = refl
seats-sum (e ∷ es) =
    let these = sum_by-cons (λ (x : ℕ). x) e.1.credits (values_of (map granted_in es)) in
    let those = sum_by-cons (λ (h : Held). h.credits) e.1 (values_of es) in
    let rest = seats-sum es in
    omega (arith, these, those, rest)

pub same-reserved : (m : Machine) → shadow.reserved_in (shadow_of m) ≡ reserved m
same-reserved m = ap (λ n. n + sum m.credits) (seats-sum m.handles)

pub no-handle : (found : Option Held) → option_map (λ (h : Held). h.credits) found ≡ None → found ≡ None
no-handle found is = grind arith

pub some-handle : (credits : ℕ) (found : Option Held) → option_map (λ (h : Held). h.credits) found ≡ Some credits → (h : Held) × (found ≡ Some h) × (h.credits ≡ credits)
some-handle credits None is = cc
some-handle credits (Some h) is = (h, refl, cc)

pub gone-none : {V : Type 0} (test : ℕ → Bool) (es : List (ℕ × V)) → lookup test es ≡ None → remove_entry test es ≡ es
gone-none test [] none = refl
gone-none test (e ∷ es) none = grind (arith, gone-none test es)

-- ---- entries and groups

-- entries of the first groups are no more than these, and have as many tickets as their handles
pub first-few : (first least past : ℕ) (groups : List (List Stopped)) (es : List Entry) → Follow first least past es → AreOfFirst groups es → (length es ≤ length groups) × (first + count (take (length es) groups) ≡ past)
first-few first least past groups [] follow are = (omega arith, omega (arith, follow))
first-few first least past [] (e ∷ es) follow are = absurd are
first-few first least past (g ∷ groups) (e ∷ es) follow are =
    let rest = first-few e.past (e.number + 1) past groups es follow.3 are.1 in
    let both = length-append g (joined (take (length es) groups)) in
    (omega arith, omega (arith, both))

-- ---- groups with handles

pub none-filled : (groups : List (List Stopped)) → All HasHandle groups → count groups ≡ 0 → groups ≡ []
none-filled [] filled none = refl
none-filled (g ∷ groups) filled none =
    let some : 0 < length g = filled 0 g (omega arith) in
    let both = length-append g (joined groups) in
    absurd (omega (arith, some, both, none))

pub length-range : {A : Type 0} (a b : ℕ) (xs : List A) → b ≤ length xs → length (slice_range xs a b) ≡ b - a
length-range a b xs inside = let rest = length-drop a xs in length-take-le (b - a) (drop a xs) (omega (arith, rest, inside))

filled-from : (hs : List Stopped) (a : ℕ) (bs : List ℕ) → RisesTo (length hs) a bs → All HasHandle (pieces_from a bs hs)
filled-from hs a [] is = All-nil HasHandle
filled-from hs a (b ∷ bs) is =
    let inside = rises-le (length hs) b bs is.1 in
    let size = length-range a b hs inside in
    All-cons HasHandle (slice_range hs a b) (pieces_from b bs hs) (omega (arith, size)) (filled-from hs b bs is.1)

-- each piece of a cut has a handle
pub filled-pieces : (hs : List Stopped) (bounds : List ℕ) → IsCut (length hs) bounds → All HasHandle (pieces bounds hs)
filled-pieces hs [] cut = absurd cut
filled-pieces hs (a ∷ bs) cut = filled-from hs a bs cut.1
