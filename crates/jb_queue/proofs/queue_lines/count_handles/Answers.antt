use Rattle.std.proofs.Common.{[], ◌∷◌, arith}
use Rattle.jb_block.specs.Size.{bytes_of}
use Rattle.jb_queue.specs.Queue.{handle_of}
use Rattle.jb_queue.proofs.Weights.{put_handle, put-length, lines-all, line-goes, line-reports}
use Rattle.jb_queue.proofs.QueueHandles.{ok-value}
use Rattle.jb_queue.proofs.queue_lines.count_handles.Goals as goal

pub returns-in-Err-clause-err : goal.returns-in-Err-clause-err
returns-in-Err-clause-err c = rw c.loop-line.invariant.number (line-reports (rw c.in-Some.ensures.parts at c.loop-line.invariant.read) c.in-Err.cause c.in-Err.ensures.judges)

pub loop-line-preserved : goal.loop-line-preserved
loop-line-preserved c =
    let so_far = c.loop-line.invariant in
    let words = ok-value (handle_of (bytes_of c.args.bs) c.in-Some.line.now) c.in-Ok.ensures.judges in
    record {
      had = put_handle so_far.had words.0;
      number = omega (arith, so_far.number, put-length so_far.had (words.0 ∷ []));
      read = line-goes (rw c.in-Some.ensures.parts at so_far.read) words.0 words.1;
      few = omega (arith, so_far.few, c.in-Some.ensures.shorter);
    }

pub returns-clause-ok : goal.returns-clause-ok
returns-clause-ok c = rw (lines-all (rw c.in_default.ensures at c.loop-line.invariant.read)) c.loop-line.invariant.number
