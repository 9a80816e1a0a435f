use Rattle.std.proofs.Common.{◌≡◌, ◌++◌, drop, map, codes, string_bytes}
use Rattle.jb_text.specs.Parts.{spaced}
use Rattle.jb_price.specs.Certificate.{price_text}
use Rattle.jb_price.proofs.print.push_prices.Given as goal

abbrev pub invariant-loop-price : goal.invariant-loop-price
invariant-loop-price l = string_bytes l.text ++ spaced (map price_text (drop l.price-index l.prices)) ≡ string_bytes l.fn.text ++ (codes "prices" ++ spaced (map price_text l.prices))
