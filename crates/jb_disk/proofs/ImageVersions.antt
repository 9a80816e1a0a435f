-- How the blocks of an image take their versions, block by block.
use Rattle.std.proofs.Common.{◌≡◌, ◌≢◌, ◌<◌, ◌≤◌, ℕ, ◌+◌, ◌*◌, ◌%◌, List, [], ◌∷◌, length, get_or, set, drop, refl, sym, ◌∙◌, ap, below_more, arith, add-one, add-zero, Vec, Global, Bor, ◌==◌, true, false, get_or-set_same, get_or-set_other}
use Rattle.std.proofs.lemmas.List.{drop-drop, get_or-drop, get_or-map}
use Rattle.std.proofs.lemmas.Bool.Decides.{nat_tests}
use Rattle.std.proofs.lemmas.Nat.{mod_below}
use Rattle.jb_disk.specs.Image.{Image, block, sector, HasShape}
use Rattle.jb_disk.specs.CrashWrites.{bytes_of_writes, table_of, writes_at, any_below}
use Rattle.jb_disk.specs.Versions.{version, one_if_any}
use Rattle.jb_disk.specs.Writes.{shape_set}

-- the blocks below a place have their versions, and the others are as they were
pub record AreChosen (sectors count place : ℕ) (old : Image) (table : List (List (List ℕ))) (choice rest : List ℕ) (now : Image) : Type 0 where
  pub shape : HasShape count (512 * sectors) now
  pub chosen : (p k : ℕ) → p < place → k < sectors → sector k (block now p) ≡ sector k (version (block old p ∷ writes_at table p) (get_or choice (any_below table p * sectors + k) 0))
  pub ahead : (p : ℕ) → place ≤ p → block now p ≡ block old p
  pub numbers : rest ≡ drop (any_below table place * sectors) choice

-- a number of a ring of one
pub only_first : (bytes : List ℕ) (number : ℕ) → version (bytes ∷ []) number ≡ bytes
only_first bytes number =
    let first : number % 1 ≡ 0 = omega (arith, mod_below number 1 (omega arith)) in
    ap (λ n. get_or (bytes ∷ []) n []) first

-- a block without writes takes no number
pub chosen-none : (sectors count place : ℕ) (old : Image) (table : List (List (List ℕ))) (choice rest : List ℕ) (now : Image) → AreChosen sectors count place old table choice rest now
    → writes_at table place ≡ [] → AreChosen sectors count (place + 1) old table choice rest now
chosen-none sectors count place old table choice rest now are none = record {
  shape = are.shape;
  chosen = λ p k below less. below_more (λ q. sector k (block now q) ≡ sector k (version (block old q ∷ writes_at table q) (get_or choice (any_below table q * sectors + k) 0))) place
      (λ q earlier. are.chosen q k earlier less)
      (ap (sector k) (are.ahead place (omega arith)
      ∙ sym (only_first (block old place) (get_or choice (any_below table place * sectors + k) 0))
      ∙ ap (λ ws. version (block old place ∷ ws) (get_or choice (any_below table place * sectors + k) 0)) (sym none))) p below;
  ahead = λ p above. are.ahead p (omega (arith, above));
  numbers = are.numbers ∙ ap (λ n. drop (n * sectors) choice) (sym (rw (add-one place) (ap (λ ws. any_below table place + one_if_any ws) none ∙ add-zero (any_below table place))));
}

-- a block with writes takes as many as it has sectors
pub chosen-some : (sectors count place : ℕ) (old : Image) (table : List (List (List ℕ))) (choice rest : List ℕ) (now : Image) (bytes : List ℕ) → AreChosen sectors count place old table choice rest now
    → place < count → one_if_any (writes_at table place) ≡ 1 → length bytes ≡ 512 * sectors
    → ((k : ℕ) → k < sectors → sector k bytes ≡ sector k (version (block now place ∷ writes_at table place) (get_or rest k 0)))
    → AreChosen sectors count (place + 1) old table choice (drop sectors rest) (set now place bytes)
chosen-some sectors count place old table choice rest now bytes are inside some size each =
    let within : place < length now = omega (arith, are.shape.blocks, inside) in
    record {
      shape = shape_set count (512 * sectors) now place bytes are.shape inside size;
      chosen = λ p k below less. below_more (λ q. sector k (block (set now place bytes) q) ≡ sector k (version (block old q ∷ writes_at table q) (get_or choice (any_below table q * sectors + k) 0))) place
          (λ q earlier. ap (sector k) (get_or-set_other now place q bytes [] (omega (arith, earlier))) ∙ are.chosen q k earlier less)
          (ap (sector k) (get_or-set_same now place bytes [] within) ∙ each k less
          ∙ ap (λ b. sector k (version (b ∷ writes_at table place) (get_or rest k 0))) (are.ahead place (omega arith))
          ∙ ap (λ n. sector k (version (block old place ∷ writes_at table place) n))
          (ap (λ r. get_or r k 0) are.numbers ∙ get_or-drop (any_below table place * sectors) choice k 0)) p below;
      ahead = λ p above. let other : p ≢ place = omega (arith, above) in get_or-set_other now place p bytes [] other ∙ are.ahead p (omega (arith, above));
      numbers =
          let product : (any_below table place + one_if_any (writes_at table place)) * sectors ≡ any_below table place * sectors + sectors
          = ap (λ n. (any_below table place + n) * sectors) some ∙ omega arith in
          ap (drop sectors) are.numbers ∙ drop-drop sectors (any_below table place * sectors) choice ∙ ap (λ n. drop n choice) (sym (rw (add-one place) product));
    }

-- the writes of a place in the table, and whether there are any
pub writes_here : (count : ℕ) (table : List (Vec (Bor (List ℕ)) Global)) (place : ℕ) (v : Vec (Bor (List ℕ)) Global) → length table ≡ count → place < count → v ≡ get_or table place v
    → writes_at (table_of table) place ≡ bytes_of_writes v.items
writes_here count table place v size inside is =
    let within : place < length table = omega (arith, size, inside) in
    get_or-map (λ x. bytes_of_writes x.items) table place v [] within ∙ ap (λ x. bytes_of_writes x.items) (sym is)

pub none_here : (writes : List (Bor (List ℕ))) → (length writes == 0) ≡ true → bytes_of_writes writes ≡ []
none_here [] empty = refl
none_here (w ∷ writes) empty = absurd (let h : ⊥ = grind (arith, nat_tests) in h)

pub some_here : (writes : List (Bor (List ℕ))) → (length writes == 0) ≡ false → one_if_any (bytes_of_writes writes) ≡ 1
some_here [] some = absurd (let h : ⊥ = cc in h)
some_here (w ∷ writes) some = refl
