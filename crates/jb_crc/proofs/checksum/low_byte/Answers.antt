use Rattle.std.proofs.Common.{◌≡◌, ◌%◌, ◌^◌, bit_xor, ap, ◌∙◌, arith}
use Rattle.std.proofs.lemmas.Nat.{and_mask, xor_mod}
use Rattle.jb_crc.proofs.checksum.low_byte.Goals as goal

pub returns-clause-value : goal.returns-clause-value
returns-clause-value c =
    let small : c.from.result % 2 ^ 8 ≡ c.args.byte = omega (arith, c.from.ensures, c.ranges.byte.fits) in
    and_mask (bit_xor c.args.crc c.from.result) 8 ∙ xor_mod c.args.crc c.from.result 8 ∙ ap (bit_xor (c.args.crc % 2 ^ 8)) small
