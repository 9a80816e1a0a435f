use Rattle.std.proofs.Common.{rules, ◌≡◌, [], ◌∷◌, Err}
use Rattle.jb_text.proofs.PartByPart.{part_first, puts_after}
use Rattle.jb_commands.specs.Lines.{shown_name}
use Rattle.jb_commands.proofs.streams.putting.put_name.Goals as goal

pub returns-in_err-put : goal.returns-in_err-put
returns-in_err-put g c =
    let fails : c.from_residual.result ≡ Err c.in_err-put.field-0.0 = search rules in
    rw (c.in-Some.is, fails) (part_first _ _ (32 ∷ []) (shown_name c.in-Some.name.now) c.in_err-put.ensures.puts)

pub returns : goal.returns
returns g c =
    rw c.in-Some.is (puts_after _ _ _ (32 ∷ []) (shown_name c.in-Some.name.now) c.put_shown.result c.in_ok-put.ensures.puts (rw c.as_bytes.ensures.value at c.put_shown.ensures))
