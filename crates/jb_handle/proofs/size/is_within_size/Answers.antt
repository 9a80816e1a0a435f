use Rattle.std.proofs.Common.{◌+◌, arith, ap}
use Rattle.std.proofs.lemmas.List.Sums.{sum_by_more}
use Rattle.std.specs.FinMap as map
use Rattle.jb_handle.specs.declared.stopped.Stopped.{Stopped}
use Rattle.jb_handle.proofs.size.is_within_size.Goals as goal

pub loop-handle-preserved : goal.loop-handle-preserved
loop-handle-preserved c =
    let more = sum_by_more (λ (h : Stopped). map.len h.words + 1) c.args.handles.now c.loop-handle.handle-index c.handle-item.result c.loop-handle-test.true in
    let item = ap (λ (h : Stopped). map.len h.words + 1) c.handle-item.is in
    (omega (arith, more, item, c.len.ensures.value, c.loop-handle.invariant.0), omega arith)
