use Rattle.std.proofs.Common.{ap}
use Rattle.jb_text.proofs.PartByPart.{partly}
use Rattle.jb_commands.proofs.fault.CommandFault.tell_json.Goals as goal

pub returns : goal.returns
returns g c =
    let words = ap (λ w. w.0) c.words_of-numbers.ensures in
    let numbers = ap (λ w. w.1) c.words_of-numbers.ensures in
    let hint = c.hint_parts-hint.ensures in
    (hint.0, rw (words, numbers, c.name_after-name.ensures, hint.1.0, hint.1.1, c.hint.ensures.value) at (partly _ _ _ c.put_fault-ignored.result c.put_fault-ignored.ensures.puts))
