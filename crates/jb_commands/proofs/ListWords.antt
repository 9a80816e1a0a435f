-- What follows the first byte of a list's word.
use Rattle.std.proofs.Common.{◌≡◌, ◌≢◌, ℕ, Bool, true, false, List, [], ◌∷◌, Option, None, Some, refl, ap, sym, arith}
use Rattle.std.specs.Borrow.{Bor}
use Rattle.std.specs.Prelude.{◌==◌, if◌then◌else◌, option_map, MatchOption}
use Rattle.std.proofs.lemmas.Bool.Decides.{nat_tests}
use Rattle.jb_commands.specs.ListText.{file_behind}

pub behind-from : (bs : List ℕ) (r : Option (Bor (List ℕ))) → MatchOption r ((rest : List ℕ) → bs ≢ 64 ∷ rest) (λ x. bs ≡ 64 ∷ x.now) → option_map (λ name. name.now) r ≡ file_behind bs
behind-from [] None is = refl
behind-from [] (Some x) is = cc
behind-from (b ∷ bs) None is = go (b == 64) refl
  where
    go : (t : Bool) → (b == 64) ≡ t → None ≡ file_behind (b ∷ bs)
    go true e = absurd (is bs (ap (λ n. n ∷ bs) (grind (arith, nat_tests, e))))
    go false e = ap (λ t. if t then Some bs else None) (sym e)
behind-from (b ∷ bs) (Some x) is = sym (ap file_behind is)
