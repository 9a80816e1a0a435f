use Rattle.std.proofs.Common.{map}
use Rattle.std.proofs.lemmas.List.{nil_from_length}
use Rattle.std.proofs.lemmas.Simd.{map-map}
use Rattle.std.specs.Prelude.{codes}
use Rattle.jb_text.specs.TextParts.{spelled}
use Rattle.jb_text.proofs.PartByPart.{part_first, puts_after}
use Rattle.jb_json.specs.Facts.{fact_of, facts_of}
use Rattle.jb_json.specs.Pieces.{member_after}
use Rattle.jb_json.proofs.object.put_members.Goals as goal

pub returns-in_default : goal.returns-in_default
returns-in_default g c = rw (nil_from_length c.args.fields.now c.in_default.ensures.cases) c.put.ensures.puts

pub returns-in-Ok : goal.returns-in-Ok
returns-in-Ok g c =
    let first = member_after (codes "{") (fact_of c.in-Some.first.now) in
    let rest = map-map (member_after (codes ",")) fact_of c.in-Some.rest.now in
    rw (c.in-Some.ensures.cases.0, rest) (puts_after _ _ _ first _ c.put_more.result c.in-Ok.ensures c.put_more.ensures)

pub returns-in-Err : goal.returns-in-Err
returns-in-Err g c =
    let first = member_after (codes "{") (fact_of c.in-Some.first.now) in
    rw c.in-Some.ensures.cases.0 (part_first _ _ first (spelled (map (member_after (codes ",")) (facts_of c.in-Some.rest.now))) c.in-Err.ensures)
