-- The grammar of a certificate's text in its own words: which text spells which claim.
use Rattle.std.specs.Prelude.{◌≡◌, ℕ, ◌+◌, ◌<◌, List, [], ◌∷◌, ◌++◌, length, map, codes, decimal, Option, Some, None}
use Rattle.std.specs.List.{AllByRecursion}
use Rattle.jb_text.specs.Parts.{spaced}
use Rattle.jb_text.specs.Lines.{AreLines}
use Rattle.jb_price.specs.Certificate.{price_text}
use Rattle.jb_price.specs.Claims.{Claim}
use Rattle.jb_price.specs.ReadBack.{Fits64, PriceFits}

-- the line of the prices
abbrev pub first_line : List (Option ℕ) → List ℕ
first_line prices = codes "prices" ++ spaced (map price_text prices)

-- the lines after it: `cut none`, or a line of bounds and a line of their total
abbrev pub cut_lines : Option (List ℕ × ℕ) → List (List ℕ)
cut_lines None = codes "cut none" ∷ []
cut_lines (Some cut) = (codes "cut" ++ spaced (map decimal cut.0)) ∷ (codes "total " ++ decimal cut.1) ∷ []

-- a claimed cut has a bound, and its numbers fit 64 bits
abbrev pub CutFits : Option (List ℕ × ℕ) → Type 0
CutFits None = Unit {0}
CutFits (Some cut) = (0 < length cut.0) × AllByRecursion Fits64 cut.0 × Fits64 cut.1

-- a text spells a claim on this many handles
pub record SpellsClaim (handles : ℕ) (text : List ℕ) (claim : Claim) : Type 0 where
  pub spelled : AreLines (first_line claim.prices ∷ cut_lines claim.cut) text
  pub one_more : length claim.prices ≡ handles + 1
  pub prices_fit : AllByRecursion PriceFits claim.prices
  pub cut_fits : CutFits claim.cut
