-- What handles of so many credits cost at most.
use Rattle.std.proofs.Common.{◌≡◌, ℕ, ◌+◌, ◌-◌, ◌*◌, ◌≤◌, true, cond, not, ◌&&◌, List, [], ◌∷◌, length, IsTrue, refl, ap, ◌∙◌, arith, All, mul-le-mul_right, mul-add}
use Rattle.std.specs.Int.{div_ceil}
use Rattle.std.specs.FinMap as map
use Rattle.std.specs.FinSet as set
use Rattle.std.proofs.lemmas.List.Elements.{All-head, All-tail}
use Rattle.std.proofs.lemmas.List.Sums.{sum_by-cons}
use Rattle.jb_handle.specs.declared.word.Word.{Word}
use Rattle.jb_handle.specs.declared.stopped.Stopped.{Stopped}
use Rattle.jb_handle.specs.Word.{is_copy}
use Rattle.jb_handle.specs.Words.{touched, copies, frees}
use Rattle.jb_handle.proofs.TouchedHomes.{contains-touched}
use Rattle.jb_cost.specs.declared.geometry.Geometry.{Geometry}
use Rattle.jb_cost.specs.Cost.{blocks_of, cost, worst_cost_of, AreCopies}
use Rattle.jb_cost.specs.NewHomes.{is_new, new_homes}
use Rattle.jb_cost.proofs.Ceilings.{ceil-reaches, ceil-least, ceil-self}
use Rattle.jb_cost.proofs.Costs.{worst-bounds}
use Rattle.jb_cost.proofs.HandleInFront.{len-copies, len-frees, few, new-few, no-copies, no-frees}

-- no handle of so many words costs more
pub worst-bound : (g : Geometry) (h : Stopped) (credits : ℕ) → map.len h.words ≤ credits → cost g (h ∷ []) ≤ worst_cost_of g credits
worst-bound g h credits within = worst-bounds g _ _ credits (omega (arith, few (h ∷ []), sum_by-cons (λ x. map.len x.words + 1) h []))

all-new : (es : List (ℕ × Word)) → All (λ e. IsTrue (is_copy e.1)) es → new_homes is_copy (touched []) es ≡ length es
all-new [] all = refl
all-new (e ∷ es) all =
    let here : is_new is_copy (touched []) e ≡ true = λ i. All-head (λ (x : ℕ × Word). IsTrue (is_copy x.1)) e es all i && not (contains-touched [] e.0 i) in
    let one : cond (is_new is_copy (touched []) e) 1 0 ≡ 1 = ap (λ b. cond {A = ℕ} b 1 0) here in
    omega (arith, one, sum_by-cons (λ x. cond (is_new is_copy (touched []) x) 1 0) e es, all-new es (All-tail (λ (x : ℕ × Word). IsTrue (is_copy x.1)) e es all))

pub blocks-copies : (g : Geometry) (c : ℕ) → blocks_of g c 0 ≡ worst_cost_of g c
blocks-copies g c = omega (arith, ceil-self 0 g.r g.entries)

-- copies alone reach it
pub worst-reached : (g : Geometry) (h : Stopped) → AreCopies h.words → cost g (h ∷ []) ≡ worst_cost_of g (map.len h.words)
worst-reached g h all =
    let copied : set.len (copies (h ∷ [])) ≡ map.len h.words = omega (arith, len-copies h [], no-copies, all-new (map.entries h.words) all, map.len-entries h.words) in
    let freed : set.len (frees (h ∷ [])) ≡ 0 = omega (arith, len-frees h [], no-frees, all-new (map.entries h.words) all, new-few (touched []) (map.entries h.words)) in
    (λ i. blocks_of g (copied i) (freed i)) ∙ blocks-copies g (map.len h.words)

module _ (g : Geometry) (room : ℕ) where
  -- so many credits fit besides their descriptors
  pub most-fits : worst_cost_of g (room - div_ceil room (g.t + 1)) ≤ room + 1
  most-fits =
      let descriptors = div_ceil room (g.t + 1) in
      let reach : room ≤ descriptors * (g.t + 1) = ceil-reaches room (g.t + 1) (omega arith) in
      let split : descriptors * (g.t + 1) ≡ descriptors * g.t + descriptors * 1 = mul-add descriptors g.t 1 in
      let few_enough : div_ceil (room - descriptors) g.t ≤ descriptors = ceil-least (room - descriptors) descriptors g.t g.tags (omega arith) in
      let within : descriptors ≤ room = ceil-self room (g.t + 1) (omega arith) in
      omega arith

  -- and no more
  pub most-least : (credits : ℕ) → worst_cost_of g credits ≤ room + 1 → credits ≤ room - div_ceil room (g.t + 1)
  most-least credits fits =
      let rest = room - credits in
      let reach : credits ≤ div_ceil credits g.t * g.t = ceil-reaches credits g.t g.tags in
      let times : div_ceil credits g.t * g.t ≤ rest * g.t = mul-le-mul_right g.t (omega arith) in
      let split : rest * (g.t + 1) ≡ rest * g.t + rest * 1 = mul-add rest g.t 1 in
      let least : div_ceil room (g.t + 1) ≤ rest = ceil-least room rest (g.t + 1) (omega arith) (omega arith) in
      omega arith
