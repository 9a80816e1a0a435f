-- Which certificates have a text of the form.
use Rattle.std.specs.Prelude.{ℕ, ◌<◌, ◌^◌, length, Option, Some, None}
use Rattle.std.specs.List.{AllByRecursion}
use Rattle.jb_price.specs.declared.certificate.Cert.{Cert}
use Rattle.jb_price.specs.declared.certificate.CertAnswer.{CertAnswer}
use Rattle.jb_price.specs.declared.certificate.CertAnswer.TheVariants.{Cut, NoCut}

-- a number that 64 bits hold
abbrev pub Fits64 : ℕ → Type 0
Fits64 n = n < 2 ^ 64

-- a price that is a number fits 64 bits
abbrev pub PriceFits : Option ℕ → Type 0
PriceFits None = Unit {0}
PriceFits (Some n) = Fits64 n

-- a claimed cut has a number
abbrev pub HasBound : CertAnswer → Type 0
HasBound (Cut bounds total) = 0 < length bounds.items
HasBound NoCut = Unit {0}

-- the numbers of an answer fit 64 bits
abbrev pub AnswerFits : CertAnswer → Type 0
AnswerFits (Cut bounds total) = AllByRecursion Fits64 bounds.items × Fits64 total
AnswerFits NoCut = Unit {0}

-- a certificate with a price, whose claimed cut has a number; all its numbers fit 64 bits, as the type says
pub record HasText (cert : Cert) : Type 0 where
  pub a_price : 0 < length cert.prices.items
  pub a_bound : HasBound cert.answer
  pub prices_fit : AllByRecursion PriceFits cert.prices.items
  pub answer_fits : AnswerFits cert.answer
