use Rattle.std.proofs.Common.{slice_index, refl, ◌∙◌, arith}
use Rattle.jb_crc.proofs.Pieces.{crc-step, crc-end}
use Rattle.jb_crc.proofs.TableRows.{one_more}
use Rattle.jb_crc.proofs.checksum.byte_by_byte.Goals as goal

pub loop-byte-preserved : goal.loop-byte-preserved
loop-byte-preserved c =
    crc-step c.loop-byte.crc _ c.args.bytes.now c.loop-byte.byte-index _ c.loop-byte-test.true refl
    (one_more c.loop-byte.crc (slice_index c.args.bytes.now c.loop-byte.byte-index) _ _ (omega (arith, c.type_inv.bytes c.loop-byte.byte-index)) c.table_1.ensures c.low_byte.ensures.value c.low_byte.ensures.within)
    ∙ c.loop-byte.invariant

pub returns : goal.returns
returns c = crc-end c.loop-byte.crc c.args.bytes.now c.loop-byte.byte-index c.loop-byte-test.false ∙ c.loop-byte.invariant
