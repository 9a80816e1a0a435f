use Rattle.std.proofs.Common.{◌≡◌, ◌++◌, [], ◌∷◌, Err, map, option_copied, rules}
use Rattle.std.specs.Prelude.{codes}
use Rattle.json.specs.Print.{quoted}
use Rattle.jb_text.specs.Parts.{words_in}
use Rattle.jb_text.specs.TextParts.{spelled}
use Rattle.jb_text.proofs.PartByPart.{part_after, part_first, puts_after}
use Rattle.jb_json.specs.Entries.{entry_word}
use Rattle.jb_json.proofs.entries.put_kind.Goals as goal

pub returns-in_err-put_parts : goal.returns-in_err-put_parts
returns-in_err-put_parts g c =
    let kind = c.args.kind.now in
    let ws = spelled (map (entry_word kind) (words_in (option_copied c.args.rest))) in
    let front = spelled (c.args.front.now ∷ codes "\"kind\":" ∷ []) in
    let fails : c.from_residual.result ≡ Err c.in_err-put_parts.field-0.0 = search rules in
    rw fails (part_first _ _ front (quoted kind ++ (ws ++ codes "}\n")) c.in_err-put_parts.ensures.puts)

pub returns-in_err-put_text : goal.returns-in_err-put_text
returns-in_err-put_text g c =
    let kind = c.args.kind.now in
    let ws = spelled (map (entry_word kind) (words_in (option_copied c.args.rest))) in
    let front = spelled (c.args.front.now ∷ codes "\"kind\":" ∷ []) in
    let fails : c.from_residual-in_err-put_text.result ≡ Err c.in_err-put_text.field-0.0 = search rules in
    rw fails (part_after _ _ _ front (quoted kind ++ (ws ++ codes "}\n")) c.in_ok-put_parts.ensures.puts
    (part_first _ _ (quoted kind) (ws ++ codes "}\n") c.in_err-put_text.ensures))

pub returns-in_err-put_words : goal.returns-in_err-put_words
returns-in_err-put_words g c =
    let kind = c.args.kind.now in
    let ws = spelled (map (entry_word kind) (words_in (option_copied c.args.rest))) in
    let front = spelled (c.args.front.now ∷ codes "\"kind\":" ∷ []) in
    let fails : c.from_residual-in_err-put_words.result ≡ Err c.in_err-put_words.field-0.0 = search rules in
    rw fails (part_after _ _ _ front (quoted kind ++ (ws ++ codes "}\n")) c.in_ok-put_parts.ensures.puts
    (part_after _ _ _ (quoted kind) (ws ++ codes "}\n") c.in_ok-put_text.ensures (part_first _ _ ws (codes "}\n") c.in_err-put_words.ensures)))

pub returns : goal.returns
returns g c =
    let kind = c.args.kind.now in
    let ws = spelled (map (entry_word kind) (words_in (option_copied c.args.rest))) in
    let front = spelled (c.args.front.now ∷ codes "\"kind\":" ∷ []) in
    puts_after _ _ _ front (quoted kind ++ (ws ++ codes "}\n")) c.put.result c.in_ok-put_parts.ensures.puts
    (puts_after _ _ _ (quoted kind) (ws ++ codes "}\n") c.put.result c.in_ok-put_text.ensures
    (puts_after _ _ _ ws (codes "}\n") c.put.result c.in_ok-put_words.ensures c.put.ensures.puts))
