use Rattle.std.proofs.Common.{codes}
use Rattle.jb_text.proofs.PartByPart.{part_first, puts_after}
use Rattle.jb_tool.specs.LoadLines.{checkpoint_word, commit_word, ends_text, thread_end_line}
use Rattle.jb_tool.proofs.loading.telling.put_ends.Goals as goal

pub returns-in-Ok : goal.returns-in-Ok
unfolding ends_text
returns-in-Ok g c =
    let load = c.args.loaded.now in
    puts_after _ _ _ (thread_end_line (codes "jb: commit ") (commit_word load)) (thread_end_line (codes "jb: checkpoint ") (checkpoint_word load))
    c.put_end-in-Ok.result (rw c.commit_word.ensures at c.in-Ok.ensures) (rw c.checkpoint_word.ensures at c.put_end-in-Ok.ensures)

pub returns-in-Err : goal.returns-in-Err
unfolding ends_text
returns-in-Err g c =
    let load = c.args.loaded.now in
    part_first _ _ (thread_end_line (codes "jb: commit ") (commit_word load)) (thread_end_line (codes "jb: checkpoint ") (checkpoint_word load))
    (rw c.commit_word.ensures at c.in-Err.ensures)
