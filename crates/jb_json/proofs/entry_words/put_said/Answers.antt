use Rattle.std.proofs.Common.{◌≡◌, ◌++◌, Err, false, rules, true}
use Rattle.std.specs.Prelude.{codes}
use Rattle.std.specs.Str.{bytes_eq}
use Rattle.jb_text.proofs.PartByPart.{part_after, part_first, puts_after}
use Rattle.jb_json.proofs.entry_words.put_said.Goals as goal

pub returns-in_err-put : goal.returns-in_err-put
returns-in_err-put g c =
    let text = c.args.text.now in
    let some : bytes_eq text (codes "-") ≡ false = search rules in
    let fails : c.from_residual.result ≡ Err c.in_err-put.field-0.0 = search rules in
    rw (some, fails) (part_first _ _ (codes "[") (text ++ codes "]") c.in_err-put.ensures.puts)

pub returns-in_err-put-2 : goal.returns-in_err-put-2
returns-in_err-put-2 g c =
    let text = c.args.text.now in
    let some : bytes_eq text (codes "-") ≡ false = search rules in
    let fails : c.from_residual-in_err-put-2.result ≡ Err c.in_err-put-2.field-0.0 = search rules in
    rw (some, fails) (part_after _ _ _ (codes "[") (text ++ codes "]") c.in_ok-put.ensures.puts (part_first _ _ text (codes "]") c.in_err-put-2.ensures.puts))

pub returns : goal.returns
returns g c =
    let text = c.args.text.now in
    let some : bytes_eq text (codes "-") ≡ false = search rules in
    rw some (puts_after _ _ _ (codes "[") (text ++ codes "]") c.put-4.result c.in_ok-put.ensures.puts
    (puts_after _ _ _ text (codes "]") c.put-4.result c.in_ok-put-2.ensures.puts c.put-4.ensures.puts))
