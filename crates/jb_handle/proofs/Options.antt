-- The first of two values, each of which may be missing.
use Rattle.std.proofs.Common.{◌≡◌, ◌||◌, Option, Some, None, is_some, refl}
use Rattle.std.specs.Option.{option_or}

-- a value or none
pub or-nothing : {A : Type 0} (x : Option A) → option_or x None ≡ x
or-nothing None = refl
or-nothing (Some w) = refl

-- the first of three, taken from the right or from the left
pub or-assoc : {A : Type 0} (x y z : Option A) → option_or x (option_or y z) ≡ option_or (option_or x y) z
or-assoc None y z = refl
or-assoc (Some w) y z = refl

-- none of two
pub or-none : {A : Type 0} (x y : Option A) → option_or x y ≡ None → (x ≡ None) × (y ≡ None)
or-none None y is = (refl, is)
or-none {A} (Some w) y is = let never : ◌≡◌ {A = Option A} (Some w) None = is in absurd (let h : ⊥ = cc in h)

-- one of two at least
pub or-some : {A : Type 0} (x y : Option A) → is_some (option_or x y) ≡ (is_some y || is_some x)
or-some None None = refl
or-some None (Some w) = refl
or-some (Some v) None = refl
or-some (Some v) (Some w) = refl
