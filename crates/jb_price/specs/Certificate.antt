-- The text of a certificate: a line of prices, a line of the cut's bounds, and a line of its total.
use Rattle.std.specs.Prelude.{ℕ, List, ◌++◌, map, codes, decimal, Option, Some, None}
use Rattle.jb_text.specs.Parts.{spaced}
use Rattle.jb_price.specs.declared.certificate.Cert.{Cert}
use Rattle.jb_price.specs.declared.certificate.CertAnswer.{CertAnswer}
use Rattle.jb_price.specs.declared.certificate.CertAnswer.TheVariants.{Cut, NoCut}

-- a price: its number, or `none`
abbrev pub price_text : Option ℕ → List ℕ
price_text None = codes "none"
price_text (Some n) = decimal n

-- the line of the prices
abbrev pub prices_line : List (Option ℕ) → List ℕ
prices_line prices = codes "prices" ++ (spaced (map price_text prices) ++ codes "\n")

-- the line of the cut, and that of its total; where there is no cut, the one line that says so
abbrev pub answer_lines : CertAnswer → List ℕ
answer_lines (Cut bounds total) =
    codes "cut" ++ (spaced (map decimal bounds.items) ++ (codes "\ntotal " ++ (decimal total ++ codes "\n")))
answer_lines NoCut = codes "cut none\n"

-- the text of a certificate
abbrev pub cert_text : Cert → List ℕ
cert_text cert = prices_line cert.prices.items ++ answer_lines cert.answer
