use Rattle.std.proofs.Common.{◌%◌, ◌/◌, ◌^◌, bit_xor, slice_index, sym, ap, ap₂, ◌∙◌, arith}
use Rattle.jb_crc.specs.Crc.{crc32c}
use Rattle.jb_crc.proofs.EightBytes.{eight, take_eight}
use Rattle.jb_crc.proofs.TableRows.{row_at}
use Rattle.jb_crc.proofs.checksum.of_eight.Goals as goal

pub returns : goal.returns
returns c =
    let crc = c.args.crc in
    let bytes = c.args.bytes.now in
    let are = c.type_inv.bytes in
    ap₂ bit_xor (row_at _ 8 _ (bit_xor (crc % 2 ^ 8) (slice_index bytes 0)) c.table_8.ensures c.low_byte.ensures.value c.low_byte.ensures.within)
    (ap₂ bit_xor (row_at _ 7 _ (bit_xor (crc / 2 ^ 8 % 2 ^ 8) (slice_index bytes 1)) c.table_7.ensures c.low_byte-2.ensures.value c.low_byte-2.ensures.within)
    (ap₂ bit_xor (row_at _ 6 _ (bit_xor (crc / 2 ^ 16 % 2 ^ 8) (slice_index bytes 2)) c.table_6.ensures c.low_byte-3.ensures.value c.low_byte-3.ensures.within)
    (ap₂ bit_xor (row_at _ 5 _ (bit_xor (crc / 2 ^ 24 % 2 ^ 8) (slice_index bytes 3)) c.table_5.ensures c.low_byte-4.ensures.value c.low_byte-4.ensures.within)
    (ap₂ bit_xor (row_at _ 4 _ (slice_index bytes 4) c.table_4.ensures c.from.ensures (omega (arith, c.from.ensures, are 4)))
    (ap₂ bit_xor (row_at _ 3 _ (slice_index bytes 5) c.table_3.ensures c.from-2.ensures (omega (arith, c.from-2.ensures, are 5)))
    (ap₂ bit_xor (row_at _ 2 _ (slice_index bytes 6) c.table_2.ensures c.from-3.ensures (omega (arith, c.from-3.ensures, are 6)))
    (row_at _ 1 _ (slice_index bytes 7) c.table_1.ensures c.from-4.ensures (omega (arith, c.from-4.ensures, are 7)))))))))
    ∙ sym (ap (crc32c crc) (take_eight bytes c.requires)
    ∙ eight crc (slice_index bytes 0) (slice_index bytes 1) (slice_index bytes 2) (slice_index bytes 3) (slice_index bytes 4) (slice_index bytes 5) (slice_index bytes 6) (slice_index bytes 7) c.ranges.crc.fits (omega (arith, are 0)) (omega (arith, are 1)) (omega (arith, are 2)) (omega (arith, are 3)) (omega (arith, are 4)) (omega (arith, are 5)) (omega (arith, are 6)) (omega (arith, are 7)))
