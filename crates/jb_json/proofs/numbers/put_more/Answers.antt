use Rattle.std.proofs.Common.{◌+◌, map, drop, Ok, Err, arith, refl, subst}
use Rattle.std.specs.Prelude.{codes}
use Rattle.std.specs.Io.KnownBytes.{Appends}
use Rattle.std.proofs.KnownBytes.{Appends-nil}
use Rattle.jb_text.specs.Puts.{Puts, PutsPart}
use Rattle.jb_text.specs.TextParts.{spelled}
use Rattle.jb_text.proofs.PartByPart.{part_first, puts_after, spelled_next, spelled_none}
use Rattle.jb_json.specs.Pieces.{number_with}
use Rattle.jb_json.proofs.numbers.put_more.Goals as goal

pub returns-in-Err : goal.returns-in-Err
returns-in-Err g c =
    let text = (number_with (codes ",")) in
    let xs = c.args.numbers.now in
    let now = g.W.Write.contents c.loop-number.writer in
    let end = g.W.Write.contents c.put_number.new.writer in
    let rest = spelled (map text (drop (c.loop-number.number-index + 1) xs)) in
    let next = spelled_next text xs c.loop-number.number-index _ _ c.loop-number-test.true refl in
    c.loop-number.invariant end (Err c.in-Err.fault) (subst (PutsPart now end) next (part_first now end _ rest c.in-Err.ensures))

pub loop-number-preserved : goal.loop-number-preserved
loop-number-preserved g c =
    let text = (number_with (codes ",")) in
    let xs = c.args.numbers.now in
    let now = g.W.Write.contents c.loop-number.writer in
    let rest = spelled (map text (drop (c.loop-number.number-index + 1) xs)) in
    let next = spelled_next text xs c.loop-number.number-index _ _ c.loop-number-test.true refl in
    λ end r more. c.loop-number.invariant end r (subst (λ t. Puts now end t r) next
    (puts_after now (g.W.Write.contents c.put_number.new.writer) end _ rest r c.in-Ok.ensures more))

pub returns : goal.returns
returns g c =
    let now = g.W.Write.contents c.loop-number.writer in
    let none = spelled_none (number_with (codes ",")) c.args.numbers.now c.loop-number.number-index (omega (arith, c.loop-number-test.false)) in
    c.loop-number.invariant now (Ok tt) (subst (Appends now now) none (Appends-nil now))
