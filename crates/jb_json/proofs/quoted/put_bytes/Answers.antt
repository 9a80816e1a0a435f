use Rattle.std.proofs.Common.{◌+◌, map, drop, Ok, Err, arith, refl, subst}
use Rattle.std.specs.Io.KnownBytes.{Appends}
use Rattle.std.proofs.KnownBytes.{Appends-nil}
use Rattle.jb_text.specs.Puts.{Puts, PutsPart}
use Rattle.jb_text.specs.TextParts.{spelled}
use Rattle.jb_text.proofs.PartByPart.{part_first, puts_after, spelled_next, spelled_none}
use Rattle.json.specs.Print.{escape_byte}
use Rattle.jb_json.proofs.quoted.put_bytes.Goals as goal

pub returns-in-Err : goal.returns-in-Err
returns-in-Err g c =
    let text = escape_byte in
    let xs = c.args.text.now in
    let now = g.W.Write.contents c.loop-byte.writer in
    let end = g.W.Write.contents c.put_byte.new.writer in
    let rest = spelled (map text (drop (c.loop-byte.byte-index + 1) xs)) in
    let next = spelled_next text xs c.loop-byte.byte-index _ _ c.loop-byte-test.true refl in
    c.loop-byte.invariant end (Err c.in-Err.fault) (subst (PutsPart now end) next (part_first now end _ rest c.in-Err.ensures))

pub loop-byte-preserved : goal.loop-byte-preserved
loop-byte-preserved g c =
    let text = escape_byte in
    let xs = c.args.text.now in
    let now = g.W.Write.contents c.loop-byte.writer in
    let rest = spelled (map text (drop (c.loop-byte.byte-index + 1) xs)) in
    let next = spelled_next text xs c.loop-byte.byte-index _ _ c.loop-byte-test.true refl in
    λ end r more. c.loop-byte.invariant end r (subst (λ t. Puts now end t r) next
    (puts_after now (g.W.Write.contents c.put_byte.new.writer) end _ rest r c.in-Ok.ensures more))

pub returns : goal.returns
returns g c =
    let now = g.W.Write.contents c.loop-byte.writer in
    let none = spelled_none escape_byte c.args.text.now c.loop-byte.byte-index (omega (arith, c.loop-byte-test.false)) in
    c.loop-byte.invariant now (Ok tt) (subst (Appends now now) none (Appends-nil now))
