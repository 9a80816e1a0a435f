use Rattle.std.proofs.Common.{◌+◌, ℕ, List, map, drop, Ok, Err, arith, refl, subst, Bor}
use Rattle.std.specs.Io.KnownBytes.{Appends}
use Rattle.std.proofs.KnownBytes.{Appends-nil}
use Rattle.jb_text.specs.Puts.{Puts, PutsPart}
use Rattle.jb_text.specs.TextParts.{spelled}
use Rattle.jb_text.proofs.PartByPart.{part_first, puts_after, spelled_next, spelled_none}
use Rattle.jb_json.specs.Pieces.{escaped_text}
use Rattle.jb_json.proofs.quoted.put_inside.Goals as goal

pub returns-in-Err : goal.returns-in-Err
returns-in-Err g c =
    let text = (λ (part : Bor (List ℕ)). escaped_text part.now) in
    let xs = c.args.parts.now in
    let now = g.W.Write.contents c.loop-part.writer in
    let end = g.W.Write.contents c.put_escaped.new.writer in
    let rest = spelled (map text (drop (c.loop-part.part-index + 1) xs)) in
    let next = spelled_next text xs c.loop-part.part-index _ _ c.loop-part-test.true refl in
    c.loop-part.invariant end (Err c.in-Err.fault) (subst (PutsPart now end) next (part_first now end _ rest c.in-Err.ensures))

pub loop-part-preserved : goal.loop-part-preserved
loop-part-preserved g c =
    let text = (λ (part : Bor (List ℕ)). escaped_text part.now) in
    let xs = c.args.parts.now in
    let now = g.W.Write.contents c.loop-part.writer in
    let rest = spelled (map text (drop (c.loop-part.part-index + 1) xs)) in
    let next = spelled_next text xs c.loop-part.part-index _ _ c.loop-part-test.true refl in
    λ end r more. c.loop-part.invariant end r (subst (λ t. Puts now end t r) next
    (puts_after now (g.W.Write.contents c.put_escaped.new.writer) end _ rest r c.in-Ok.ensures more))

pub returns : goal.returns
returns g c =
    let now = g.W.Write.contents c.loop-part.writer in
    let none = spelled_none (λ (part : Bor (List ℕ)). escaped_text part.now) c.args.parts.now c.loop-part.part-index (omega (arith, c.loop-part-test.false)) in
    c.loop-part.invariant now (Ok tt) (subst (Appends now now) none (Appends-nil now))
