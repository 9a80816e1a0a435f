-- What the text of a certificate claims, line by line, or its first fault.
use Rattle.std.specs.Prelude.{◌≡◌, ℕ, ◌+◌, ◌==◌, if◌then◌else◌, List, [], ◌∷◌, ◌++◌, length, codes, Option, option_map}
use Rattle.std.specs.Prelude.{IsSome, Some, None, Result, Ok, Err}
use Rattle.std.specs.Option.{option_and_then}
use Rattle.std.specs.Str.{bytes_eq}
use Rattle.jb_text.specs.Parts.{◌>>=◌, lines, words, behind_word, read_first, number_of}
use Rattle.jb_price.specs.declared.certificate.Cert.{Cert}
use Rattle.jb_price.specs.declared.certificate.CertAnswer.{CertAnswer}
use Rattle.jb_price.specs.declared.certificate.CertAnswer.TheVariants.{Cut, NoCut}
use Rattle.jb_price.specs.declared.fault.CertFault.{CertFault}
use Rattle.jb_price.specs.declared.fault.CertFault.TheVariants.{Syntax, Length, Memory}

-- what a certificate claims: its prices, and the bounds and the total of its cut, or that there is none
pub record Claim : Type 0 where
  pub prices : List (Option ℕ)
  pub cut : Option (List ℕ × ℕ)

-- the cut of an answer, as a value
abbrev pub cut_of : CertAnswer → Option (List ℕ × ℕ)
cut_of (Cut bounds total) = Some (bounds.items, total)
cut_of NoCut = None

-- the claim of a certificate
abbrev pub claim_of : Cert → Claim
claim_of cert = record { prices = cert.prices.items; cut = cut_of cert.answer }

-- the price that a word gives
abbrev pub price_in_word : List ℕ → Option (Option ℕ)
price_in_word word = if bytes_eq word (codes "none") then Some None else option_map Some (number_of word)

-- what some words say one by one, after what the words before them said
unfoldable pub after_each : {A : Type 0} → (List ℕ → Option A) → List A → List (List ℕ) → Option (List A)
after_each read had [] = Some had
after_each read had (word ∷ more) = option_and_then (λ x. after_each read (had ++ x ∷ []) more) (read word)

-- the line of the prices
abbrev pub prices_in : List ℕ → Option (List (Option ℕ))
prices_in line = option_and_then (λ text. after_each price_in_word [] (words text)) (behind_word (codes "prices ") line)

-- the bounds that a text says, or `none`
abbrev pub bounds_in : List ℕ → Option (Option (List ℕ))
bounds_in text =
    if bytes_eq text (codes "none") then Some None else option_map Some (after_each number_of [] (words text))

-- the line of the cut
abbrev pub cut_in : List ℕ → Option (Option (List ℕ))
cut_in line = option_and_then bounds_in (behind_word (codes "cut ") line)

-- the line of the total
abbrev pub total_in : List ℕ → Option ℕ
total_in line = option_and_then number_of (behind_word (codes "total ") line)

-- what a line says, or that its form is broken
abbrev pub on_line : {A : Type 0} → ℕ → Option A → Result A CertFault
on_line at None = Err (Syntax at)
on_line at (Some x) = Ok x

-- no line is left
abbrev pub at_end : {A : Type 0} → ℕ → A → List (List ℕ) → Result A CertFault
at_end at x [] = Ok x
at_end at x (line ∷ more) = Err (Syntax at)

-- the cut of the line of the bounds, and of the lines after it
abbrev pub with_total : Option (List ℕ) → List (List ℕ) → Result (Option (List ℕ × ℕ)) CertFault
with_total None more = at_end 3 None more
with_total (Some bounds) more = do
  total ← on_line 3 (read_first total_in more)
  at_end 4 (Some (bounds, total.0)) total.1

-- the claim that lines say
abbrev pub claim_in : List (List ℕ) → Result Claim CertFault
claim_in all = do
  prices ← on_line 1 (read_first prices_in all)
  bounds ← on_line 2 (read_first cut_in prices.1)
  cut ← with_total bounds.0 bounds.1
  Ok (record { prices = prices.0; cut = cut })

-- one price more than there are handles
abbrev pub for_handles : ℕ → Claim → Result Claim CertFault
for_handles handles claim = if length claim.prices == handles + 1 then Ok claim else Err Length

-- the claim that a text makes of this many handles
abbrev pub read_of : ℕ → List ℕ → Result Claim CertFault
read_of handles text = do
  claim ← claim_in (lines text)
  for_handles handles claim

-- what the first word of a line of prices says, and the words after it
abbrev pub first_price : List ℕ → Option (Option ℕ × List (List ℕ))
first_price line = option_and_then (λ text. read_first price_in_word (words text)) (behind_word (codes "prices ") line)

-- the first line of a text begins with a price, the first thing that is kept
abbrev pub BeginsWithPrice : List ℕ → Type 0
BeginsWithPrice text = IsSome (read_first first_price (lines text))

-- a fault is the first one of a text; `Memory` says only that something is kept
abbrev pub Refuses : {A : Type 0} → Type 0 → Result A CertFault → CertFault → Type 0
Refuses grows read Memory = grows
Refuses grows read fault = read ≡ Err fault
