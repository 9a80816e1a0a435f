use Rattle.std.proofs.Common.{map}
use Rattle.std.proofs.lemmas.Simd.{map-map}
use Rattle.jb_text.specs.TextParts.{spelled}
use Rattle.jb_text.proofs.PartByPart.{part_first, puts_after}
use Rattle.jb_json.specs.Facts.{fact_of, facts_of}
use Rattle.jb_json.specs.Reports.{fact_lines, facts_line}
use Rattle.jb_json.proofs.report.put_report.Goals as goal

pub returns-in-Ok : goal.returns-in-Ok
returns-in-Ok g c =
    rw (map-map fact_lines fact_of c.args.fields.now) (puts_after _ _ _ (facts_line (facts_of c.args.fields.now)) _ c.put_lists.result c.in-Ok.ensures c.put_lists.ensures)

pub returns-in-Err : goal.returns-in-Err
returns-in-Err g c =
    let facts = facts_of c.args.fields.now in
    part_first _ _ (facts_line facts) (spelled (map fact_lines facts)) c.in-Err.ensures
