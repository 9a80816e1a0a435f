-- What costs do when handles are added, and how large they are.
use Rattle.std.proofs.Common.{◌≡◌, ℕ, suc, ◌+◌, ◌*◌, ◌<◌, ◌≤◌, List, ◌∷◌, length, get_or, drop, sym, ap, subst, ◌∙◌, arith, drop-cons}
use Rattle.std.specs.FinMap as map
use Rattle.std.proofs.lemmas.List.Sums.{sum_by-take-drop}
use Rattle.std.specs.FinSet as set
use Rattle.jb_handle.specs.declared.stopped.Stopped.{Stopped}
use Rattle.jb_handle.specs.Size.{weight}
use Rattle.jb_handle.specs.Words.{copies, frees}
use Rattle.jb_cost.specs.declared.geometry.Geometry.{Geometry}
use Rattle.jb_cost.specs.Cost.{blocks_of, cost, worst_cost_of}
use Rattle.jb_cost.proofs.Ceilings.{ceil-mono, ceil-self}
use Rattle.jb_cost.proofs.HandleInFront.{len-copies, len-frees, few}

-- more copies and more frees take no fewer blocks
pub blocks-mono : (g : Geometry) (c f d e : ℕ) → c ≤ d → f ≤ e → blocks_of g c f ≤ blocks_of g d e
blocks-mono g c f d e more_copies more_frees = omega (arith, ceil-mono c d g.t g.tags more_copies, ceil-mono f e g.r g.entries more_frees)

-- a handle in front takes no blocks away
pub cost-left : (g : Geometry) (h : Stopped) (hs : List Stopped) → cost g hs ≤ cost g (h ∷ hs)
cost-left g h hs = blocks-mono g _ _ _ _ (omega (arith, len-copies h hs)) (omega (arith, len-frees h hs))

-- twice the handles and the homes that they touch
pub cost-few : (g : Geometry) (hs : List Stopped) → cost g hs + 2 * length hs ≤ 2 * weight hs + 1
cost-few g hs = omega (arith, few hs, ceil-self (set.len (copies hs)) g.t g.tags, ceil-self (set.len (frees hs)) g.r g.entries)

-- copies alone are the dearest words
pub worst-bounds : (g : Geometry) (c f credits : ℕ) → c + f ≤ credits → blocks_of g c f ≤ worst_cost_of g credits
worst-bounds g c f credits within = omega (arith, ceil-mono c credits g.t g.tags (omega arith), ceil-self f g.r g.entries)

-- a handle and those after it are no heavier than the whole list
pub weight-from : (hs : List Stopped) (s : ℕ) (h : Stopped) → h ≡ get_or hs s h → s < length hs → weight (h ∷ drop (suc s) hs) ≤ weight hs
weight-from hs s h here inside =
    let whole : drop s hs ≡ h ∷ drop (suc s) hs = drop-cons hs s h inside ∙ ap (λ x. x ∷ drop (suc s) hs) (sym here) in
    subst (λ gs. weight gs ≤ weight hs) whole (omega (arith, sum_by-take-drop (λ x. map.len x.words + 1) hs s))
