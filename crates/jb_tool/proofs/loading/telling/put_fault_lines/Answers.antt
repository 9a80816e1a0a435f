use Rattle.jb_text.proofs.PartByPart.{part_first, puts_after}
use Rattle.jb_tool.specs.LoadLines.{ends_text, faults_text, refused_text}
use Rattle.jb_tool.proofs.loading.telling.put_fault_lines.Goals as goal

pub returns-in-Ok : goal.returns-in-Ok
unfolding faults_text
returns-in-Ok g c =
    puts_after _ _ _ (refused_text c.args.loaded.now.refused) (ends_text c.args.loaded.now) c.put_ends.result c.in-Ok.ensures c.put_ends.ensures

pub returns-in-Err : goal.returns-in-Err
unfolding faults_text
returns-in-Err g c = part_first _ _ (refused_text c.args.loaded.now.refused) (ends_text c.args.loaded.now) c.in-Err.ensures
