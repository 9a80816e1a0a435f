use Rattle.std.proofs.Common.{length, None, sym, ◌∙◌, arith}
use Rattle.std.proofs.lemmas.List.{get_or_read}
use Rattle.jb_cost.specs.Cut.{piece_cost}
use Rattle.jb_plan.proofs.StepTable.{prices-steps, answers-cut, answers-none}
use Rattle.jb_plan.proofs.planner.plan.Goals as goal
use Rattle.jb_plan.proofs.planner.plan.Goals.{in-Some+in_ok-bounds-in-Some, in-None}

pub returns-clause-prices : goal.returns-clause-prices
returns-clause-prices c =
    let table = c.in_ok-table.ensures in
    prices-steps (piece_cost c.args.geometry c.args.handles.now) c.args.limit c.in_ok-table.table.prices.items c.in_ok-table.table.froms.items (length c.args.handles.now) table.steps table.number

pub returns-clause-answer : goal.returns-clause-answer
returns-clause-answer c =
    let cost = piece_cost c.args.geometry c.args.handles.now in
    let n = length c.args.handles.now in
    let ps = c.in_ok-table.table.prices.items in
    let froms = c.in_ok-table.table.froms.items in
    let table = c.in_ok-table.ensures in
    let read = get_or_read ps n c.index.result.now (omega (arith, table.number)) c.index.ensures None in
    elim c.match-index.branch [
      | in-Some+in_ok-bounds-in-Some w ↦
          let bounds = w.in_ok-bounds-in-Some.bounds.items in
          let back = rw w.deref.ensures.value at w.in_ok-bounds-in-Some.ensures.steps in
          rw w.answer-is (answers-cut cost c.args.limit ps froms n w.in-Some.total bounds table.steps (sym read ∙ w.in-Some.is) w.in_ok-bounds-in-Some.ensures.cut back)
      | in-None w ↦ rw w.answer-is (answers-none cost c.args.limit ps froms n table.steps (sym read ∙ w.in-None.is))
    ]
