use Rattle.std.proofs.Common.{◌+◌, map, drop, Ok, Err, arith, refl, subst}
use Rattle.std.specs.Prelude.{codes}
use Rattle.std.specs.Io.KnownBytes.{Appends}
use Rattle.std.proofs.KnownBytes.{Appends-nil}
use Rattle.jb_text.specs.Puts.{Puts, PutsPart}
use Rattle.jb_text.specs.TextParts.{spelled}
use Rattle.jb_text.proofs.PartByPart.{part_first, puts_after, spelled_next, spelled_none}
use Rattle.jb_json.specs.declared.field.Field.{Field}
use Rattle.jb_json.specs.Facts.{fact_of}
use Rattle.jb_json.specs.Pieces.{member_after}
use Rattle.jb_json.proofs.object.put_more.Goals as goal

pub returns-in-Err : goal.returns-in-Err
returns-in-Err g c =
    let text = (λ (field : Field). member_after (codes ",") (fact_of field)) in
    let xs = c.args.fields.now in
    let now = g.W.Write.contents c.loop-field.writer in
    let end = g.W.Write.contents c.put_member.new.writer in
    let rest = spelled (map text (drop (c.loop-field.field-index + 1) xs)) in
    let next = spelled_next text xs c.loop-field.field-index _ _ c.loop-field-test.true refl in
    c.loop-field.invariant end (Err c.in-Err.fault) (subst (PutsPart now end) next (part_first now end _ rest c.in-Err.ensures))

pub loop-field-preserved : goal.loop-field-preserved
loop-field-preserved g c =
    let text = (λ (field : Field). member_after (codes ",") (fact_of field)) in
    let xs = c.args.fields.now in
    let now = g.W.Write.contents c.loop-field.writer in
    let rest = spelled (map text (drop (c.loop-field.field-index + 1) xs)) in
    let next = spelled_next text xs c.loop-field.field-index _ _ c.loop-field-test.true refl in
    λ end r more. c.loop-field.invariant end r (subst (λ t. Puts now end t r) next
    (puts_after now (g.W.Write.contents c.put_member.new.writer) end _ rest r c.in-Ok.ensures more))

pub returns : goal.returns
returns g c =
    let now = g.W.Write.contents c.loop-field.writer in
    let none = spelled_none (λ (field : Field). member_after (codes ",") (fact_of field)) c.args.fields.now c.loop-field.field-index (omega (arith, c.loop-field-test.false)) in
    c.loop-field.invariant now (Ok tt) (subst (Appends now now) none (Appends-nil now))
