use Rattle.std.proofs.Common.{map, Ok, Err, option_copied}
use Rattle.std.proofs.KnownBytes.{Appends-nil}
use Rattle.jb_text.specs.Parts.{words_in}
use Rattle.jb_text.specs.TextParts.{spelled}
use Rattle.jb_text.proofs.LineLeft.{none-left}
use Rattle.jb_text.proofs.PartByPart.{part_first, puts_after}
use Rattle.jb_json.specs.Entries.{entry_word}
use Rattle.jb_json.proofs.entries.put_words.Goals as goal

pub returns-in-Err : goal.returns-in-Err
returns-in-Err g c =
    let rest = spelled (map (entry_word c.args.kind.now) (words_in (option_copied c.next_word.result.1))) in
    c.loop-rest.invariant _ (Err c.in-Err.fault) (rw (c.in-Some.is, c.next_word.ensures.words) (part_first _ _ (entry_word c.args.kind.now c.next_word.result.0.now) rest c.in-Err.ensures))

pub loop-rest-preserved : goal.loop-rest-preserved
loop-rest-preserved g c =
    let rest = spelled (map (entry_word c.args.kind.now) (words_in (option_copied c.next_word.result.1))) in
    λ end r more. c.loop-rest.invariant end r (rw (c.in-Some.is, c.next_word.ensures.words) (puts_after _ _ _ (entry_word c.args.kind.now c.next_word.result.0.now) rest r c.in-Ok.ensures more))

pub returns : goal.returns
returns g c =
    let now = g.W.Write.contents c.loop-rest.writer in
    c.loop-rest.invariant now (Ok tt) (rw (none-left c.loop-rest.rest c.in_default.not-Some) (Appends-nil now))
