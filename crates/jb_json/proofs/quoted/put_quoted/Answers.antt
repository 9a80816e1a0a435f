use Rattle.std.proofs.Common.{◌≡◌, ◌++◌, Err, map, rules}
use Rattle.std.specs.Prelude.{codes}
use Rattle.json.specs.Print.{escape}
use Rattle.jb_text.specs.TextParts.{spelled}
use Rattle.jb_text.proofs.PartByPart.{part_after, part_first, puts_after}
use Rattle.jb_json.proofs.QuotedTexts.{inside-whole}
use Rattle.jb_json.proofs.quoted.put_quoted.Goals as goal

pub returns-in_err-put : goal.returns-in_err-put
returns-in_err-put g c =
    let inside = escape (spelled (map (λ part. part.now) c.args.parts.now)) in
    let fails : c.from_residual.result ≡ Err c.in_err-put.field-0.0 = search rules in
    rw fails (part_first _ _ (codes "\"") (inside ++ codes "\"") c.in_err-put.ensures.puts)

pub returns-in_err-put_inside : goal.returns-in_err-put_inside
returns-in_err-put_inside g c =
    let inside = escape (spelled (map (λ part. part.now) c.args.parts.now)) in
    let fails : c.from_residual-in_err-put_inside.result ≡ Err c.in_err-put_inside.field-0.0 = search rules in
    rw fails (part_after _ _ _ (codes "\"") (inside ++ codes "\"") c.in_ok-put.ensures.puts
    (part_first _ _ inside (codes "\"") (rw (inside-whole c.args.parts.now) at c.in_err-put_inside.ensures)))

pub returns : goal.returns
returns g c =
    let inside = escape (spelled (map (λ part. part.now) c.args.parts.now)) in
    puts_after _ _ _ (codes "\"") (inside ++ codes "\"") c.put-2.result c.in_ok-put.ensures.puts
    (puts_after _ _ _ inside (codes "\"") c.put-2.result (rw (inside-whole c.args.parts.now) at c.in_ok-put_inside.ensures) c.put-2.ensures.puts)
