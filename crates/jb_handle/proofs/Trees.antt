-- Words in a tree: a further one is put among its entries as into a map.
use Rattle.std.proofs.Common.{◌≡◌, ℕ, List, [], ◌∷◌, cond, Some, ap, refl, Less, Equal, Greater}
use Rattle.std.specs.BTreeMap.{insert_entry, is_at}
use Rattle.std.specs.Map.{lookup}
use Rattle.std.specs.Ordering.{nat_cmp, eq_by_cmp, match_ordering}
use Rattle.std.specs.FinMap as map
use Rattle.std.specs.FinMap.Entries.{by_order}

pub insert-puts : {W : Type 0} (b : ℕ) (w : W) (es : List (ℕ × W)) → map.put nat_cmp b w es ≡ insert_entry nat_cmp es b w
insert-puts b w [] = refl
insert-puts b w (e ∷ es) =
    elim (nat_cmp b e.0) as (λ o. by_order o ((b, w) ∷ e ∷ es) ((e.0, w) ∷ es) (e ∷ map.put nat_cmp b w es) ≡ match_ordering o ((b, w) ∷ e ∷ es) ((e.0, w) ∷ es) (e ∷ insert_entry nat_cmp es b w)) [
      | Less ↦ refl
      | Equal ↦ refl
      | Greater ↦ ap (λ rest. e ∷ rest) (insert-puts b w es)
    ]

-- what a tree has at a home is what a map has there
pub find-looks : {W : Type 0} (b : ℕ) (es : List (ℕ × W)) → map.find nat_cmp b es ≡ lookup (is_at (nat_cmp b)) es
find-looks b [] = refl
find-looks b (e ∷ es) = ap (cond (eq_by_cmp nat_cmp b e.0) (Some e.1)) (find-looks b es)
