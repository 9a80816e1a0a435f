-- What a write does to the shape of an image.
use Rattle.std.proofs.Common.{◌≡◌, ◌<◌, ℕ, List, [], length, set, refl, sym, ◌∙◌, ap, inl, inr, arith, length-set}
use Rattle.std.proofs.Common.{get_or-set_same, get_or-set_other}
use Rattle.std.proofs.Math.Decide.{ℕ_discrete}
use Rattle.jb_disk.specs.Image.{Image, block, sector, Torn, HasShape}

-- a whole write is one of the ways in which a torn one may end
pub torn_whole : (c : Image) (place : ℕ) (bytes : List ℕ) → place < length c → length bytes ≡ length (block c place)
    → Torn place bytes c (set c place bytes)
torn_whole c place bytes inside whole =
    let same : block (set c place bytes) place ≡ bytes = get_or-set_same c place bytes [] inside in
    record {
      count = length-set c place bytes;
      elsewhere = λ p other. get_or-set_other c place p bytes [] other;
      size = ap length same ∙ whole;
      sectors = λ k. inr (ap (sector k) same);
    }

-- no write at all is another
pub torn_same : (c : Image) (place : ℕ) (bytes : List ℕ) → Torn place bytes c c
torn_same c place bytes = record {
  count = refl;
  elsewhere = λ p other. refl;
  size = refl;
  sectors = λ k. inl refl;
}

-- a torn write keeps the shape
pub shape_torn : (count size : ℕ) (old new : Image) (place : ℕ) (bytes : List ℕ) → HasShape count size old
    → Torn place bytes old new → HasShape count size new
shape_torn count size old new place bytes shape torn = record {
  blocks = torn.count ∙ shape.blocks;
  bytes = λ p inside. elim (ℕ_discrete p place) [
    | yes here ↦ ap (λ q. length (block new q)) here ∙ torn.size ∙ ap (λ q. length (block old q)) (sym here)
        ∙ shape.bytes p inside
    | no other ↦ ap length (torn.elsewhere p other) ∙ shape.bytes p inside
  ];
}

-- and so does a whole one
pub shape_set : (count size : ℕ) (c : Image) (place : ℕ) (bytes : List ℕ) → HasShape count size c → place < count
    → length bytes ≡ size → HasShape count size (set c place bytes)
shape_set count size c place bytes shape inside whole =
    let within : place < length c = omega (arith, shape.blocks, inside) in
    shape_torn count size c (set c place bytes) place bytes shape
    (torn_whole c place bytes within (whole ∙ sym (shape.bytes place inside)))
