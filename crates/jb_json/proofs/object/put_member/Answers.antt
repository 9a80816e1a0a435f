use Rattle.std.proofs.Common.{◌≡◌, ◌++◌, Err, append-nil, rules}
use Rattle.std.specs.Prelude.{codes}
use Rattle.json.specs.Print.{quoted}
use Rattle.jb_text.proofs.PartByPart.{part_after, part_first, puts_after}
use Rattle.jb_json.specs.Facts.{fact_of}
use Rattle.jb_json.specs.Objects.{fact_name}
use Rattle.jb_json.specs.Pieces.{value_text}
use Rattle.jb_json.proofs.object.put_member.Goals as goal

pub returns-in_err-put : goal.returns-in_err-put
returns-in_err-put g c =
    let fact = fact_of c.args.field in
    let fails : c.from_residual.result ≡ Err c.in_err-put.field-0.0 = search rules in
    rw fails (part_first _ _ c.args.before.now (quoted (fact_name fact) ++ (codes ":" ++ value_text fact)) (rw c.as_bytes.ensures.value at c.in_err-put.ensures.puts))

pub returns-in_err-put_quoted : goal.returns-in_err-put_quoted
returns-in_err-put_quoted g c =
    let fact = fact_of c.args.field in
    let fails : c.from_residual-in_err-put_quoted.result ≡ Err c.in_err-put_quoted.field-0.0 = search rules in
    let text = rw (append-nil c.name.result.now, c.name.ensures) at c.in_err-put_quoted.ensures in
    rw fails (part_after _ _ _ c.args.before.now (quoted (fact_name fact) ++ (codes ":" ++ value_text fact)) (rw c.as_bytes.ensures.value at c.in_ok-put.ensures.puts)
    (part_first _ _ (quoted (fact_name fact)) (codes ":" ++ value_text fact) text))

pub returns-in_err-put-2 : goal.returns-in_err-put-2
returns-in_err-put-2 g c =
    let fact = fact_of c.args.field in
    let fails : c.from_residual-in_err-put-2.result ≡ Err c.in_err-put-2.field-0.0 = search rules in
    let text = rw (append-nil c.name.result.now, c.name.ensures) at c.in_ok-put_quoted.ensures in
    rw fails (part_after _ _ _ c.args.before.now (quoted (fact_name fact) ++ (codes ":" ++ value_text fact)) (rw c.as_bytes.ensures.value at c.in_ok-put.ensures.puts)
    (part_after _ _ _ (quoted (fact_name fact)) (codes ":" ++ value_text fact) text (part_first _ _ (codes ":") (value_text fact) c.in_err-put-2.ensures.puts)))

pub returns : goal.returns
returns g c =
    let fact = fact_of c.args.field in
    let text = rw (append-nil c.name.result.now, c.name.ensures) at c.in_ok-put_quoted.ensures in
    puts_after _ _ _ c.args.before.now (quoted (fact_name fact) ++ (codes ":" ++ value_text fact)) c.put_value.result (rw c.as_bytes.ensures.value at c.in_ok-put.ensures.puts)
    (puts_after _ _ _ (quoted (fact_name fact)) (codes ":" ++ value_text fact) c.put_value.result text
    (puts_after _ _ _ (codes ":") (value_text fact) c.put_value.result c.in_ok-put-2.ensures.puts c.put_value.ensures))
