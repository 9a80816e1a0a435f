use Rattle.std.proofs.Common.{◌*◌, arith, ◌∙◌, refl}
use Rattle.hex.proofs.Pairs.{decode_step, decode_done, decode_err, decode_sized-pairs}
use Rattle.jb_queue.proofs.DigitTable.{err-of}
use Rattle.jb_queue.proofs.digits.decode.Goals as goal

pub bytes-preserved : goal.bytes-preserved
bytes-preserved c =
    decode_step _ _ c.bytes.i _ (omega arith) (omega arith) (c.in-Some.ensures (2 * c.bytes.i)) c.bytes.invariant

pub returns-in-None : goal.returns-in-None
returns-in-None c =
    let bad = err-of _ (c.in-None.ensures (2 * c.bytes.i)) in
    let d = decode_sized-pairs _ _ c.if-digits-ne0.false c.if-digits-out.false ∙ decode_err _ c.bytes.out c.bytes.i bad.0 (omega arith) bad.1 c.bytes.invariant in
    rw d refl

pub returns : goal.returns
returns c =
    let d = decode_sized-pairs _ _ c.if-digits-ne0.false c.if-digits-out.false ∙ decode_done _ c.bytes.out c.bytes.i (omega arith) (omega arith) c.bytes.invariant in
    rw d (refl, refl)
