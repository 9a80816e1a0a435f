use Rattle.std.proofs.Common.{◌≡◌, ◌++◌, Err, map, rules}
use Rattle.std.proofs.lemmas.List.{nil_from_length}
use Rattle.std.specs.Prelude.{codes}
use Rattle.jb_text.specs.TextParts.{spelled}
use Rattle.jb_text.proofs.PartByPart.{part_after, part_first, puts_after}
use Rattle.jb_json.specs.Pieces.{sparse_with}
use Rattle.jb_json.proofs.sparse.put_sparse.Goals as goal

pub returns-in_default : goal.returns-in_default
returns-in_default g c = rw (nil_from_length c.args.numbers.now c.in_default.ensures.cases) c.put.ensures.puts

pub returns-in_err-put_number : goal.returns-in_err-put_number
returns-in_err-put_number g c =
    let first = sparse_with (codes "[") c.in-Some.first.now in
    let more = spelled (map (sparse_with (codes ",")) c.in-Some.rest.now) in
    let fails : c.from_residual.result ≡ Err c.in_err-put_number.field-0.0 = search rules in
    rw (c.in-Some.ensures.cases.0, fails) (part_first _ _ first (more ++ codes "]") c.in_err-put_number.ensures)

pub returns-in_err-put_more : goal.returns-in_err-put_more
returns-in_err-put_more g c =
    let first = sparse_with (codes "[") c.in-Some.first.now in
    let more = spelled (map (sparse_with (codes ",")) c.in-Some.rest.now) in
    let fails : c.from_residual-in_err-put_more.result ≡ Err c.in_err-put_more.field-0.0 = search rules in
    rw (c.in-Some.ensures.cases.0, fails) (part_after _ _ _ first (more ++ codes "]") c.in_ok-put_number.ensures
    (part_first _ _ more (codes "]") c.in_err-put_more.ensures))

pub returns : goal.returns
returns g c =
    let first = sparse_with (codes "[") c.in-Some.first.now in
    let more = spelled (map (sparse_with (codes ",")) c.in-Some.rest.now) in
    rw c.in-Some.ensures.cases.0 (puts_after _ _ _ first (more ++ codes "]") c.put-2.result c.in_ok-put_number.ensures
    (puts_after _ _ _ more (codes "]") c.put-2.result c.in_ok-put_more.ensures c.put-2.ensures.puts))
