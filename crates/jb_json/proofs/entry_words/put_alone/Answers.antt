use Rattle.std.proofs.Common.{◌≡◌, ◌++◌, Err, false, rules, true}
use Rattle.std.specs.Prelude.{codes}
use Rattle.std.specs.Str.{bytes_eq}
use Rattle.json.specs.Print.{quoted}
use Rattle.jb_text.proofs.PartByPart.{part_after, part_first, puts_after}
use Rattle.jb_json.proofs.entry_words.put_alone.Goals as goal

pub returns-in_err-put : goal.returns-in_err-put
returns-in_err-put g c =
    let is : bytes_eq c.args.kind.now (codes "uuid") ≡ true = search rules in
    let fails : c.from_residual.result ≡ Err c.in_err-put.field-0.0 = search rules in
    rw (is, fails) (part_first _ _ (codes ",\"uuid\":") (quoted c.args.word.now) c.in_err-put.ensures.puts)

pub returns-then-eq : goal.returns-then-eq
returns-then-eq g c =
    let is : bytes_eq c.args.kind.now (codes "uuid") ≡ true = search rules in
    rw is (puts_after _ _ _ (codes ",\"uuid\":") (quoted c.args.word.now) c.put_text.result c.in_ok-put.ensures.puts c.put_text.ensures)

pub returns-in_err-put-2 : goal.returns-in_err-put-2
returns-in_err-put-2 g c =
    let other : bytes_eq c.args.kind.now (codes "uuid") ≡ false = search rules in
    let fails : c.from_residual-in_err-put-2.result ≡ Err c.in_err-put-2.field-0.0 = search rules in
    rw (other, fails) (part_first _ _ (codes ",") (quoted c.args.word.now ++ codes ":true") c.in_err-put-2.ensures.puts)

pub returns-in_err-put_text : goal.returns-in_err-put_text
returns-in_err-put_text g c =
    let other : bytes_eq c.args.kind.now (codes "uuid") ≡ false = search rules in
    let fails : c.from_residual-in_err-put_text.result ≡ Err c.in_err-put_text.field-0.0 = search rules in
    rw (other, fails) (part_after _ _ _ (codes ",") (quoted c.args.word.now ++ codes ":true") c.in_ok-put-2.ensures.puts
    (part_first _ _ (quoted c.args.word.now) (codes ":true") c.in_err-put_text.ensures))

pub returns : goal.returns
returns g c =
    let other : bytes_eq c.args.kind.now (codes "uuid") ≡ false = search rules in
    rw other (puts_after _ _ _ (codes ",") (quoted c.args.word.now ++ codes ":true") c.put-3.result c.in_ok-put-2.ensures.puts
    (puts_after _ _ _ (quoted c.args.word.now) (codes ":true") c.put-3.result c.in_ok-put_text.ensures c.put-3.ensures.puts))
