use Rattle.std.proofs.Common.{◌≡◌, ◌++◌, [], Err, rules}
use Rattle.std.proofs.lemmas.List.{nil_from_length}
use Rattle.std.proofs.lemmas.Simd.{map-map}
use Rattle.std.specs.Prelude.{codes}
use Rattle.jb_text.proofs.PartByPart.{part_after, part_first, puts_after}
use Rattle.jb_json.specs.Facts.{fact_of, facts_of}
use Rattle.jb_json.specs.Reports.{fact_after, facts_after}
use Rattle.jb_json.proofs.lines.put_line.Goals as goal

pub returns-in_default : goal.returns-in_default
returns-in_default g c = rw (nil_from_length c.args.fields.now c.in_default.ensures.cases) c.put.ensures.puts

pub returns-in_err-put_field : goal.returns-in_err-put_field
returns-in_err-put_field g c =
    let first = fact_after [] (fact_of c.in-Some.first.now) in
    let more = facts_after (facts_of c.in-Some.rest.now) in
    let fails : c.from_residual.result ≡ Err c.in_err-put_field.field-0.0 = search rules in
    rw (c.in-Some.ensures.cases.0, fails) (part_first _ _ first (more ++ codes "\n") c.in_err-put_field.ensures)

pub returns-in_err-put_rest : goal.returns-in_err-put_rest
returns-in_err-put_rest g c =
    let first = fact_after [] (fact_of c.in-Some.first.now) in
    let more = facts_after (facts_of c.in-Some.rest.now) in
    let rest = map-map (fact_after (codes " ")) fact_of c.in-Some.rest.now in
    let fails : c.from_residual-in_err-put_rest.result ≡ Err c.in_err-put_rest.field-0.0 = search rules in
    rw (c.in-Some.ensures.cases.0, fails) (part_after _ _ _ first (more ++ codes "\n") c.in_ok-put_field.ensures
    (part_first _ _ more (codes "\n") (rw rest c.in_err-put_rest.ensures)))

pub returns : goal.returns
returns g c =
    let first = fact_after [] (fact_of c.in-Some.first.now) in
    let more = facts_after (facts_of c.in-Some.rest.now) in
    let rest = map-map (fact_after (codes " ")) fact_of c.in-Some.rest.now in
    rw c.in-Some.ensures.cases.0 (puts_after _ _ _ first (more ++ codes "\n") c.put-2.result c.in_ok-put_field.ensures
    (puts_after _ _ _ more (codes "\n") c.put-2.result (rw rest c.in_ok-put_rest.ensures) c.put-2.ensures.puts))
