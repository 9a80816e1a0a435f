-- Handles within their credits.
use Rattle.std.proofs.Common.{ℕ, zero, suc, ◌+◌, ◌≤◌, List, [], ◌∷◌, ◌++◌, length, drop, sum, le_refl, arith}
use Rattle.std.specs.FinMap as map
use Rattle.std.proofs.lemmas.List.Sums.{sum_by-cons}
use Rattle.jb_handle.specs.declared.stopped.Stopped.{Stopped}
use Rattle.jb_handle.specs.Size.{weight}
use Rattle.jb_cost.specs.Credits.{Covers}

pub covers-append : (cs ds : List ℕ) (hs ks : List Stopped) → Covers cs hs → Covers ds ks → Covers (cs ++ ds) (hs ++ ks)
covers-append [] ds [] ks a b = b
covers-append (c ∷ cs) ds (h ∷ hs) ks a b = (a.0, covers-append cs ds hs ks a.1 b)
covers-append cs ds hs ks a b = absurd a

pub covers-drop : (k : ℕ) (cs : List ℕ) (hs : List Stopped) → Covers cs hs → Covers (drop k cs) (drop k hs)
covers-drop zero cs hs a = a
covers-drop (suc k) [] [] a = tt
covers-drop (suc k) (c ∷ cs) (h ∷ hs) a = covers-drop k cs hs a.1
covers-drop (suc k) cs hs a = absurd a

-- the handles weigh no more than their credits and one for each
pub covers-weight : (cs : List ℕ) (hs : List Stopped) → Covers cs hs → weight hs ≤ sum cs + length hs
covers-weight [] [] a = le_refl 0
covers-weight (c ∷ cs) (h ∷ hs) a =
    omega (arith, a.0, covers-weight cs hs a.1, sum_by-cons (λ (g : Stopped). map.len g.words + 1) h hs, sum_by-cons (λ (x : ℕ). x) c cs)
covers-weight cs hs a = absurd a
