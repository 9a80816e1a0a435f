use Rattle.std.proofs.Common.{◌≡◌, ◌++◌, Err, map, rules}
use Rattle.std.specs.Prelude.{codes}
use Rattle.jb_text.specs.TextParts.{spelled}
use Rattle.jb_text.proofs.PartByPart.{part_after, part_first, puts_after}
use Rattle.jb_commands.proofs.command_output.put_reason.Goals as goal

pub returns-in_err-put : goal.returns-in_err-put
returns-in_err-put g c =
    let reason = spelled (map (λ part. part.now) c.args.reason.now) in
    let fails : c.from_residual.result ≡ Err c.in_err-put.field-0.0 = search rules in
    rw fails (part_first _ _ (codes "jb: ") (reason ++ codes "\n") c.in_err-put.ensures.puts)

pub returns-in_err-put_parts : goal.returns-in_err-put_parts
returns-in_err-put_parts g c =
    let reason = spelled (map (λ part. part.now) c.args.reason.now) in
    let fails : c.from_residual-in_err-put_parts.result ≡ Err c.in_err-put_parts.field-0.0 = search rules in
    rw fails (part_after _ _ _ (codes "jb: ") (reason ++ codes "\n") c.in_ok-put.ensures.puts (part_first _ _ reason (codes "\n") c.in_err-put_parts.ensures.puts))

pub returns : goal.returns
returns g c =
    let reason = spelled (map (λ part. part.now) c.args.reason.now) in
    puts_after _ _ _ (codes "jb: ") (reason ++ codes "\n") c.put-2.result c.in_ok-put.ensures.puts
    (puts_after _ _ _ reason (codes "\n") c.put-2.result c.in_ok-put_parts.ensures.puts c.put-2.ensures.puts)
