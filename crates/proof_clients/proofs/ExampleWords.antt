-- What a home holds after the one handle of an example.
use Rattle.std.proofs.Common.{◌≡◌, ℕ, List, [], ◌∷◌, Some, None, nat_cmp}
use Rattle.std.specs.FinMap as map
use Rattle.jb_handle.specs.declared.word.Word.{Word}
use Rattle.jb_handle.specs.declared.word.Word.TheVariants.{Copy, Free}
use Rattle.proof_clients.specs.Examples.{copies_at, wrote}
use Rattle.proof_clients.specs.ExampleChanges.{freed_one}

pub own-copy : (new : List ℕ) → map.get (wrote new 0 (1 ∷ [])).words 1 ≡ Some (Copy new)
own-copy new = map.get-from_sorted nat_cmp (copies_at new (1 ∷ [])) 1 tt

pub other-copy : (new : List ℕ) → map.get (wrote new 0 (1 ∷ [])).words 2 ≡ None
other-copy new = map.get-from_sorted nat_cmp (copies_at new (1 ∷ [])) 2 tt

pub own-free : map.get (freed_one 0 1).words 1 ≡ Some Free
own-free = let one : List (ℕ × Word) = (1, Free) ∷ [] in map.get-from_sorted nat_cmp one 1 tt
