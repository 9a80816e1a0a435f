use Rattle.std.proofs.Common.{rules, ◌≡◌, ◌++◌, [], ◌∷◌, Err, map, option_map}
use Rattle.jb_text.specs.TextParts.{spelled}
use Rattle.jb_text.proofs.PartByPart.{part_after, part_first, puts_after}
use Rattle.jb_commands.specs.Lines.{after_words}
use Rattle.jb_commands.proofs.streams.putting.put_each.Goals as goal

pub returns-in_err-put_parts : goal.returns-in_err-put_parts
returns-in_err-put_parts g c =
    let fails : c.from_residual.result ≡ Err c.in_err-put_parts.field-0.0 = search rules in
    rw fails (part_first _ _ (spelled (map (λ word. word.now) c.args.words.now)) (after_words (option_map (λ name. name.now) c.args.name) ++ (10 ∷ [])) c.in_err-put_parts.ensures.puts)

pub returns-in_err-put_name : goal.returns-in_err-put_name
returns-in_err-put_name g c =
    let name = after_words (option_map (λ name. name.now) c.args.name) in
    let fails : c.from_residual-in_err-put_name.result ≡ Err c.in_err-put_name.field-0.0 = search rules in
    rw fails (part_after _ _ _ (spelled (map (λ word. word.now) c.args.words.now)) (name ++ (10 ∷ [])) c.in_ok-put_parts.ensures.puts (part_first _ _ name (10 ∷ []) c.in_err-put_name.ensures))

pub returns : goal.returns
returns g c =
    let name = after_words (option_map (λ name. name.now) c.args.name) in
    puts_after _ _ _ (spelled (map (λ word. word.now) c.args.words.now)) (name ++ (10 ∷ [])) c.put.result c.in_ok-put_parts.ensures.puts
    (puts_after _ _ _ name (10 ∷ []) c.put.result c.in_ok-put_name.ensures c.put.ensures.puts)
