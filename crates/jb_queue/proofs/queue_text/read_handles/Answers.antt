use Rattle.std.proofs.Common.{◌≡◌, ◌∷◌, rules, ap, length, [], Err}
use Rattle.jb_block.specs.Size.{bytes_of}
use Rattle.jb_text.specs.Parts.{lines}
use Rattle.jb_queue.specs.declared.fault.Cause.TheVariants.{Memory as OutOfMemory}
use Rattle.jb_queue.proofs.Weights.{LinesTo, lines-none, lines-all, line-goes, line-reports, may-grow}
use Rattle.jb_queue.proofs.Ops.{line-begins}
use Rattle.jb_queue.proofs.queue_text.read_handles.Goals as goal
use Rattle.jb_queue.proofs.queue_text.read_handles.Goals.{After-len-at}

pub loop-line-init : goal.loop-line-init
loop-line-init c =
    let none : c.new-handles.result.items ≡ [] = search rules in
    rw none (lines-none _ (lines c.args.text.now))

-- what is read up to the next line, and its number
next : (c : After-len-at) → LinesTo (bytes_of c.args.bs) (lines c.args.text.now) c.loop-line.handles.items (c.in-Some.line.now ∷ lines c.in-Some.behind.now)
next c = rw c.in-Some.ensures.parts at c.loop-line.invariant

at : (c : After-len-at) → c.len-at.result ≡ length c.loop-line.handles.items
at c = search rules

pub returns-in_default-push-clause-err : goal.returns-in_default-push-clause-err
returns-in_default-push-clause-err c = let here = (goal.at.returns-in_default-push-clause-err c).After-len-at in rw (at here) (line-reports (next here) OutOfMemory tt)

pub returns-in-Err-clause-err : goal.returns-in-Err-clause-err
returns-in-Err-clause-err c = let here = (goal.at.returns-in-Err-clause-err c).After-len-at in rw (at here) (line-reports (next here) c.in-Err.cause c.in-Err.ensures.gives)

pub loop-line-preserved : goal.loop-line-preserved
loop-line-preserved c = let here = (goal.at.loop-line-preserved c).After-len-at in rw (c.in-Ok-push.ensures.items, at here) (line-goes (next here) c.in-Ok.words c.in-Ok.ensures.gives)

pub returns-clause-ok : goal.returns-clause-ok
returns-clause-ok c = lines-all (rw c.in_default.ensures at c.loop-line.invariant)

pub returns-in_default-push-clause-memory : goal.returns-in_default-push-clause-memory
returns-in_default-push-clause-memory c =
    let here = (goal.at.returns-in_default-push-clause-memory c).After-len-at in
    λ memory. rw (at here) (may-grow (next here) (line-begins (bytes_of c.args.bs) c.in-Some.line.now c.in-Ok.words c.in-Ok.ensures.gives))

pub returns-in-Err-clause-memory : goal.returns-in-Err-clause-memory
returns-in-Err-clause-memory c = let here = (goal.at.returns-in-Err-clause-memory c).After-len-at in λ memory. rw (at here) (may-grow (next here) (c.in-Err.ensures.begins (ap Err memory)))
