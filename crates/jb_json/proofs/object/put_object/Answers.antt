use Rattle.std.proofs.Common.{subst, ◌++◌, Err}
use Rattle.std.specs.Prelude.{codes}
use Rattle.jb_text.specs.Puts.{Puts}
use Rattle.jb_text.proofs.PartByPart.{part_first, puts_after}
use Rattle.jb_json.specs.Facts.{facts_of}
use Rattle.jb_json.specs.Pieces.{members_text}
use Rattle.jb_json.proofs.Printing.{object-line}
use Rattle.jb_json.proofs.object.put_object.Goals as goal

pub returns-in-Ok : goal.returns-in-Ok
returns-in-Ok g c =
    let facts = facts_of c.args.fields.now in
    let old = g.W.Write.contents c.args.writer.now in
    let new = g.W.Write.contents c.put.new.writer in
    subst (λ text. Puts old new text c.put.result) (object-line facts)
    (puts_after old (g.W.Write.contents c.put_members.new.writer) new (members_text facts) (codes "}\n") c.put.result c.in-Ok.ensures c.put.ensures.puts)

pub returns-in-Err : goal.returns-in-Err
returns-in-Err g c =
    let facts = facts_of c.args.fields.now in
    let old = g.W.Write.contents c.args.writer.now in
    let new = g.W.Write.contents c.put_members.new.writer in
    subst (λ text. Puts old new text (Err c.in-Err.fault)) (object-line facts)
    (part_first old new (members_text facts) (codes "}\n") c.in-Err.ensures)
