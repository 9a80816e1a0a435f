use Rattle.std.proofs.Common.{map, Ok, Err}
use Rattle.std.proofs.KnownBytes.{Appends-nil}
use Rattle.jb_text.specs.Parts.{lines}
use Rattle.jb_text.specs.TextParts.{spelled}
use Rattle.jb_text.proofs.PartByPart.{part_first, puts_after}
use Rattle.jb_json.specs.Entries.{entry_text}
use Rattle.jb_json.proofs.entries.put_entries.Goals as goal

pub returns-in-Err : goal.returns-in-Err
returns-in-Err g c =
    let rest = spelled (map entry_text (lines c.in-Some.behind.now)) in
    c.loop-line.invariant _ (Err c.in-Err.fault) (rw c.in-Some.ensures.parts (part_first _ _ (entry_text c.in-Some.line.now) rest c.in-Err.ensures))

pub loop-line-preserved : goal.loop-line-preserved
loop-line-preserved g c =
    let rest = spelled (map entry_text (lines c.in-Some.behind.now)) in
    λ end r more. c.loop-line.invariant end r (rw c.in-Some.ensures.parts (puts_after _ _ _ (entry_text c.in-Some.line.now) rest r c.in-Ok.ensures more))

pub returns : goal.returns
returns g c =
    let now = g.W.Write.contents c.loop-line.writer in
    c.loop-line.invariant now (Ok tt) (rw c.in_default.ensures (Appends-nil now))
