use Rattle.std.proofs.Common.{◌≡◌, ◌++◌, Err, map, rules}
use Rattle.std.specs.Prelude.{codes}
use Rattle.json.specs.Print.{escape}
use Rattle.jb_text.proofs.PartByPart.{part_after, part_first, puts_after}
use Rattle.jb_json.proofs.QuotedTexts.{escaped-whole}
use Rattle.jb_json.proofs.entry_words.put_text.Goals as goal

pub returns-in_err-put : goal.returns-in_err-put
returns-in_err-put g c =
    let inside = escape c.args.text.now in
    let fails : c.from_residual.result ≡ Err c.in_err-put.field-0.0 = search rules in
    rw fails (part_first _ _ (codes "\"") (inside ++ codes "\"") c.in_err-put.ensures.puts)

pub returns-in_err-put_bytes : goal.returns-in_err-put_bytes
returns-in_err-put_bytes g c =
    let inside = escape c.args.text.now in
    let fails : c.from_residual-in_err-put_bytes.result ≡ Err c.in_err-put_bytes.field-0.0 = search rules in
    rw fails (part_after _ _ _ (codes "\"") (inside ++ codes "\"") c.in_ok-put.ensures.puts
    (part_first _ _ inside (codes "\"") (rw (escaped-whole c.args.text.now) at c.in_err-put_bytes.ensures)))

pub returns : goal.returns
returns g c =
    let inside = escape c.args.text.now in
    puts_after _ _ _ (codes "\"") (inside ++ codes "\"") c.put-2.result c.in_ok-put.ensures.puts
    (puts_after _ _ _ inside (codes "\"") c.put-2.result (rw (escaped-whole c.args.text.now) at c.in_ok-put_bytes.ensures) c.put-2.ensures.puts)
