use Rattle.std.proofs.Common.{[], ◌∷◌, option_copied, decimal}
use Rattle.std.specs.Prelude.{codes}
use Rattle.jb_text.specs.Parts.{words_in}
use Rattle.jb_text.specs.TextParts.{spelled}
use Rattle.jb_text.proofs.PartByPart.{part_first, puts_after}
use Rattle.jb_json.specs.Entries.{kind_text}
use Rattle.jb_json.proofs.entries.put_numbered.Goals as goal

pub returns-in-Ok : goal.returns-in-Ok
returns-in-Ok g c =
    let front = spelled (codes "{\"block\":" ∷ decimal c.args.block ∷ []) in
    let more = kind_text (codes ",") c.next_word.result.0.now (words_in (option_copied c.next_word.result.1)) in
    rw (c.in-Some.is, c.next_word.ensures.words) (puts_after _ _ _ front more c.put_kind.result (rw c.format-2.ensures.text at c.in-Ok.ensures.puts) c.put_kind.ensures)

pub returns-in-Err : goal.returns-in-Err
returns-in-Err g c =
    let front = spelled (codes "{\"block\":" ∷ decimal c.args.block ∷ []) in
    let more = kind_text (codes ",") c.next_word.result.0.now (words_in (option_copied c.next_word.result.1)) in
    rw (c.in-Some.is, c.next_word.ensures.words) (part_first _ _ front more (rw c.format-2.ensures.text at c.in-Err.ensures.puts))
