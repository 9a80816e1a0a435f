-- The first fault of a certificate's text in the words of its grammar: what is of the form before it, and what is not
-- there.
use Rattle.std.specs.Prelude.{◌≡◌, ℕ, ◌+◌, ◌<◌, ◌⊎◌, List, ◌∷◌, ◌++◌, length, map, codes, decimal, Option}
use Rattle.std.specs.List.{AllByRecursion}
use Rattle.jb_text.specs.Parts.{lines, spaced}
use Rattle.jb_price.specs.declared.fault.CertFault.{CertFault}
use Rattle.jb_price.specs.declared.fault.CertFault.TheVariants.{Syntax, Length}
use Rattle.jb_price.specs.Claims.{Claim}
use Rattle.jb_price.specs.ReadBack.{Fits64, PriceFits}
use Rattle.jb_price.specs.Grammar.{first_line, cut_lines, CutFits}

-- some lines begin with one of prices, and these come after it
pub record AfterPrices (all more : List (List ℕ)) : Type 0 where
  pub prices : List (Option ℕ)
  pub some : 0 < length prices
  pub fit : AllByRecursion PriceFits prices
  pub parts : all ≡ first_line prices ∷ more

-- some lines begin with one of bounds, and these come after it
pub record AfterBounds (all more : List (List ℕ)) : Type 0 where
  pub bounds : List ℕ
  pub some : 0 < length bounds
  pub fit : AllByRecursion Fits64 bounds
  pub parts : all ≡ (codes "cut" ++ spaced (map decimal bounds)) ∷ more

-- some lines begin with one of a total, and these come after it
pub record AfterTotal (all more : List (List ℕ)) : Type 0 where
  pub total : ℕ
  pub fits : Fits64 total
  pub parts : all ≡ (codes "total " ++ decimal total) ∷ more

-- `cut none` is not the last line
pub record GoesOnAfterNone (all : List (List ℕ)) : Type 0 where
  pub line : List ℕ
  pub last : List (List ℕ)
  pub parts : all ≡ codes "cut none" ∷ line ∷ last

-- the line of the total is not the last one
pub record GoesOnAfterTotal (all : List (List ℕ)) : Type 0 where
  pub line : List ℕ
  pub last : List (List ℕ)
  pub after : AfterTotal all (line ∷ last)

-- the first line, if there is one, is none of prices
abbrev pub HasNoPrices : List (List ℕ) → Type 0
HasNoPrices all = (more : List (List ℕ)) → AfterPrices all more → ⊥

-- it is neither `cut none` nor one of bounds
pub record HasNoCut (all : List (List ℕ)) : Type 0 where
  pub none : (more : List (List ℕ)) → all ≡ codes "cut none" ∷ more → ⊥
  pub bounds : (more : List (List ℕ)) → AfterBounds all more → ⊥

-- it is none of a total
abbrev pub HasNoTotal : List (List ℕ) → Type 0
HasNoTotal all = (more : List (List ℕ)) → AfterTotal all more → ⊥

-- what is wrong with the lines after that of the bounds: the third line of the text, or a fourth one
abbrev pub TotalFault : List (List ℕ) → CertFault → Type 0
TotalFault all fault = ((fault ≡ Syntax 3) × HasNoTotal all) ⊎ ((fault ≡ Syntax 4) × GoesOnAfterTotal all)

-- the first of some lines is one of bounds, and something after it is wrong
pub record BoundsFault (all : List (List ℕ)) (fault : CertFault) : Type 0 where
  pub more : List (List ℕ)
  pub after : AfterBounds all more
  pub wrong : TotalFault more fault

-- what is wrong with the lines after that of the prices: the second line of the text, or one after it
abbrev pub CutFault : List (List ℕ) → CertFault → Type 0
CutFault all fault =
    ((fault ≡ Syntax 2) × HasNoCut all) ⊎ (((fault ≡ Syntax 3) × GoesOnAfterNone all) ⊎ BoundsFault all fault)

-- the first of some lines is one of prices, and something after it is wrong
pub record PricesFault (all : List (List ℕ)) (fault : CertFault) : Type 0 where
  pub more : List (List ℕ)
  pub after : AfterPrices all more
  pub wrong : CutFault more fault

-- the first line that breaks the form
abbrev pub SyntaxFault : List (List ℕ) → CertFault → Type 0
SyntaxFault all fault = ((fault ≡ Syntax 1) × HasNoPrices all) ⊎ PricesFault all fault

-- all lines are of the form, and there is not one price more than handles
pub record LengthFault (handles : ℕ) (all : List (List ℕ)) : Type 0 where
  pub claim : Claim
  pub some : 0 < length claim.prices
  pub fit : AllByRecursion PriceFits claim.prices
  pub cut_fits : CutFits claim.cut
  pub parts : all ≡ first_line claim.prices ∷ cut_lines claim.cut
  pub other : length claim.prices ≡ handles + 1 → ⊥

-- the first fault of a certificate's text for this many handles
abbrev pub FirstCertFault : ℕ → List ℕ → CertFault → Type 0
FirstCertFault handles text fault =
    SyntaxFault (lines text) fault ⊎ ((fault ≡ Length) × LengthFault handles (lines text))
