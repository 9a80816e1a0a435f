use Rattle.std.proofs.Common.{◌≡◌, ◌⊎◌, ◌∙◌, ap, sym, ℕ, ◌-◌, ◌*◌, ◌/◌, ◌<◌, ◌≤◌, ◌&&◌, nat_lt, nat_le, false, List, [], ◌∷◌, length, take, drop, refl, arith, Result, Ok, Err, inl, inr}
use Rattle.std.proofs.lemmas.Bool.Decides.{nat_tests}
use Rattle.hex.specs.Hex.{decode_of}
use Rattle.hex.specs.declared.error.FromHexError.{FromHexError}
use Rattle.hex.proofs.HexLemmas.{decode_of-ok}
use Rattle.jb_text.proofs.PartByPart.{rest_all}
use Rattle.jb_queue.specs.declared.fault.Cause.TheVariants.{DataWord}
use Rattle.jb_queue.specs.Queue.{data_in_word, decoded_block}
use Rattle.jb_queue.proofs.op_text.read_payload.Goals as goal

-- no pair of digits, or more pairs than a block has bytes
abbrev AreOut : ℕ → ℕ → Type 0
AreOut size digits = (digits / 2 ≡ 0) ⊎ ((digits / 2 ≡ 0 → ⊥) × (size < digits / 2))

out-false : (size count digits : ℕ) → digits ≡ 2 * count → AreOut size digits → (nat_lt 0 count && nat_le count size) ≡ false
out-false size count digits twice (inl none) = grind (arith, nat_tests, twice, none)
out-false size count digits twice (inr more) = grind (arith, nat_tests, twice, more.1)

unfit : (size : ℕ) (digits : List ℕ) (read : Result (List ℕ) FromHexError) → decode_of digits ≡ read → AreOut size (length digits) → decoded_block size read ≡ Err DataWord
unfit size digits (Err fault) is out = refl
unfit size digits (Ok bytes) is out = rw (out-false size (length bytes) (length digits) (decode_of-ok digits bytes is).2 out) refl

no_data : (size most : ℕ) → size ≡ most → (text : List ℕ) → 1 ≤ length text → AreOut size (length (take (length text - 1) (drop 1 text))) → data_in_word most text ≡ Err DataWord
no_data size most same [] some out = let never : ⊥ = omega arith in absurd never
no_data size most same (equals ∷ digits) some out =
    ap (λ n. decoded_block n (decode_of digits)) (sym same) ∙ unfit size digits (decode_of digits) refl (rw (← ap length (rest_all (equals ∷ digits) 1)) out)

pub returns-then-len-eq0-clause-gives : goal.returns-then-len-eq0-clause-gives
returns-then-len-eq0-clause-gives c = no_data c.bytes-size.result _ c.bytes-size.ensures.value c.args.text.now c.in-len1-up.len_at_least c.then-len-eq0.either
