use Rattle.std.proofs.Common.{take, drop, sym, ap, ◌∙◌}
use Rattle.std.proofs.lemmas.List.{take-append-drop}
use Rattle.jb_crc.specs.Crc.{crc32c}
use Rattle.jb_crc.proofs.Pieces.{crc-append}
use Rattle.jb_crc.proofs.checksum.crc32c.Goals as goal

pub loop-rest-preserved : goal.loop-rest-preserved
loop-rest-preserved c =
    let crc = c.loop-rest.crc in
    let rest = c.loop-rest.rest.now in
    rw (c.of_eight-crc.ensures, c.behind_eight-rest.ensures)
    (sym (crc-append crc (take 8 rest) (drop 8 rest)) ∙ ap (crc32c crc) (take-append-drop 8 rest) ∙ c.loop-rest.invariant)

pub returns : goal.returns
returns c = c.byte_by_byte.ensures ∙ c.loop-rest.invariant
