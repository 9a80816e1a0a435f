use Rattle.std.proofs.Common.{◌≡◌, ◌++◌, Err, rules}
use Rattle.std.specs.Prelude.{codes}
use Rattle.json.specs.Print.{quoted}
use Rattle.jb_text.proofs.PartByPart.{part_after, part_first, puts_after}
use Rattle.jb_json.specs.Entries.{entry_value}
use Rattle.jb_json.proofs.entry_words.put_pair.Goals as goal

pub returns-in_err-put : goal.returns-in_err-put
returns-in_err-put g c =
    let value = entry_value c.args.kind.now c.args.name.now c.args.value.now in
    let fails : c.from_residual.result ≡ Err c.in_err-put.field-0.0 = search rules in
    rw fails (part_first _ _ (codes ",") (quoted c.args.name.now ++ (codes ":" ++ value)) c.in_err-put.ensures.puts)

pub returns-in_err-put_text : goal.returns-in_err-put_text
returns-in_err-put_text g c =
    let value = entry_value c.args.kind.now c.args.name.now c.args.value.now in
    let fails : c.from_residual-in_err-put_text.result ≡ Err c.in_err-put_text.field-0.0 = search rules in
    rw fails (part_after _ _ _ (codes ",") (quoted c.args.name.now ++ (codes ":" ++ value)) c.in_ok-put.ensures.puts
    (part_first _ _ (quoted c.args.name.now) (codes ":" ++ value) c.in_err-put_text.ensures))

pub returns-in_err-put-2 : goal.returns-in_err-put-2
returns-in_err-put-2 g c =
    let value = entry_value c.args.kind.now c.args.name.now c.args.value.now in
    let fails : c.from_residual-in_err-put-2.result ≡ Err c.in_err-put-2.field-0.0 = search rules in
    rw fails (part_after _ _ _ (codes ",") (quoted c.args.name.now ++ (codes ":" ++ value)) c.in_ok-put.ensures.puts
    (part_after _ _ _ (quoted c.args.name.now) (codes ":" ++ value) c.in_ok-put_text.ensures (part_first _ _ (codes ":") value c.in_err-put-2.ensures.puts)))

pub returns : goal.returns
returns g c =
    let value = entry_value c.args.kind.now c.args.name.now c.args.value.now in
    puts_after _ _ _ (codes ",") (quoted c.args.name.now ++ (codes ":" ++ value)) c.put_value.result c.in_ok-put.ensures.puts
    (puts_after _ _ _ (quoted c.args.name.now) (codes ":" ++ value) c.put_value.result c.in_ok-put_text.ensures
    (puts_after _ _ _ (codes ":") value c.put_value.result c.in_ok-put-2.ensures.puts c.put_value.ensures))
