-- Words that clap takes and that are refused all the same.
use Rattle.std.proofs.Common.{◌≡◌, ◌⊎◌, inl, inr, [], Option, Some, None, subst}
use Rattle.std.specs.Prelude.{IfSome}
use Rattle.jb_args.specs.Faults.{HasKind, Kinds, kind_of}
use Rattle.jb_args.specs.declared.Error.{Error}
use Rattle.jb_args.specs.declared.ErrorKind.TheVariants.{OutOfMemory}

-- what holds of any value holds of one that may be missing
if-any : {A : Type 0} (P : A → Type 0) (o : Option A) → ((a : A) → P a) → IfSome o P
if-any P (Some a) all = all a
if-any P None all = tt

-- where clap finds no fault, the refusal is out of memory, or nothing is asked for
pub refused-asks : {A : Type 0} (P : A → Type 0) (Q : Type 0) (kinds : Kinds) (asked : Option A) (error : Error)
    → HasKind kinds error ⊎ ((kinds ≡ []) × (asked ≡ None)) → (kind_of error ≡ OutOfMemory → Q) → kinds ≡ []
    → IfSome asked (λ a. P a ⊎ Q)
refused-asks P Q kinds asked error (inl has) memory none = go (subst (λ kinds. HasKind kinds error) none has)
  where
    go : HasKind [] error → IfSome asked (λ a. P a ⊎ Q)
    go (inl is) = if-any (λ a. P a ⊎ Q) asked (λ a. inr (memory is))
    go (inr among) = absurd among
refused-asks P Q kinds asked error (inr nothing) memory none = rw nothing.1 tt
