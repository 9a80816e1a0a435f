-- The words of the handles of the examples differ.
use Rattle.std.proofs.Common.{◌≡◌, ℕ, [], ◌∷◌, Some, None, sym, ap, ◌∙◌, nat_cmp}
use Rattle.std.specs.FinMap as map
use Rattle.jb_handle.specs.declared.word.Word.TheVariants.{Copy}
use Rattle.jb_handle.specs.Word.{WordMap}
use Rattle.proof_clients.specs.Examples.{copies_at}
use Rattle.proof_clients.specs.ExampleMarks.{first, second, third}

apart-at : (x y : WordMap) (q : ℕ) → map.get x q ≡ Some (Copy []) → map.get y q ≡ None → x ≡ y → ⊥
apart-at x y q some none same = let both : Some (Copy []) ≡ None = sym some ∙ ap (λ w. map.get w q) same ∙ none in cc

-- what a handle left at a home that wrote one
at : (b q : ℕ) → map.get (map.from_sorted {R = nat_cmp} (copies_at [] (b ∷ []))) q ≡ map.find nat_cmp q (copies_at [] (b ∷ []))
at b q = map.get-from_sorted nat_cmp (copies_at [] (b ∷ [])) q tt

pub first-third : first ≡ third → ⊥
first-third same = apart-at first third 1 (at 1 1) (at 3 1) same

pub second-third : second ≡ third → ⊥
second-third same = apart-at second third 2 (at 2 2) (at 3 2) same
