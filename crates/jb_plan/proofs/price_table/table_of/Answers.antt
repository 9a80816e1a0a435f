use Rattle.std.proofs.Common.{◌≡◌, ◌+◌, None, [], ◌∷◌, ◌++◌, ap, ◌∙◌, sym, arith}
use Rattle.std.proofs.Math.ListN.{get_or-append}
use Rattle.std.proofs.lemmas.List.{get_or_read}
use Rattle.jb_cost.specs.Cut.{piece_cost}
use Rattle.jb_cost.specs.LastTouches.{TellsQueue}
use Rattle.jb_cost.proofs.TouchCosts.{tells-as, homes-few}
use Rattle.jb_cost.proofs.PieceCosts.{piece-within}
use Rattle.jb_plan.specs.Step.{most_of, price_of, from_of, step_from}
use Rattle.jb_plan.proofs.StepTable.{table-start, table-more, best-step, step-room}
use Rattle.jb_plan.proofs.price_table.table_of.Goals as goal
use Rattle.jb_plan.proofs.price_table.table_of.Goals.{In_ok-add, in-Some, in-None}

pub loop-last-init : goal.loop-last-init
loop-last-init c = record {
  table = rw (c.in_ok-table.ensures.prices, c.in_ok-table.ensures.froms) (table-start (piece_cost c.args.geometry c.args.handles.now) c.args.limit (most_of c.args.handles.now));
  sound = c.new-touches.ensures.sound;
  tells = c.new-touches.ensures.tells c.args.handles.now c.in_ok-table.table.prices.items;
}

-- the touches tell the queue with one handle more
told : (c : In_ok-add) → TellsQueue c.args.geometry c.args.handles.now (c.loop-last.last + 1) c.loop-last.table.prices.items c.add.new.self
told c =
    let ps = c.loop-last.table.prices.items in
    c.in_ok-add.ensures.tells c.args.geometry c.args.handles.now c.loop-last.last ps c.loop-last.invariant.tells (omega arith) c.index-handles-last.is
    (sym (get_or_read ps c.loop-last.last c.index.result.now (omega (arith, c.loop-last.invariant.table.number)) c.index.ensures None))

pub best-requires-clause-few : goal.best-requires-clause-few
best-requires-clause-few c =
    homes-few c.args.geometry c.args.handles.now (c.loop-last.last + 1) _ c.add.new.self c.in_ok-add.ensures.sound (told (goal.at.best-requires-clause-few c).In_ok-add) c.requires.size

pub overflow_add-price : goal.overflow_add-price
overflow_add-price c =
    let hs = c.args.handles.now in
    let n = c.loop-last.last in
    let table = c.loop-last.invariant.table in
    let best = (c.best.ensures.tells c.args.geometry hs (n + 1) _ (told (goal.at.overflow_add-price c).In_ok-add)).1 in
    let room = step-room hs (λ i. piece_cost c.args.geometry hs i (n + 1)) c.args.limit _ (n + 1) c.in-Some.found c.requires.size (omega arith) table.within
    (omega (arith, table.number)) (rw c.in-Some.is at best) in
    omega (arith, room)

pub loop-last-preserved : goal.loop-last-preserved
loop-last-preserved c =
    let g = c.args.geometry in
    let hs = c.args.handles.now in
    let n = c.loop-last.last in
    let ps = c.loop-last.table.prices.items in
    let table = c.loop-last.invariant.table in
    let best = c.best.ensures.tells g hs (n + 1) ps (told (goal.at.loop-last-preserved c).In_ok-add) in
    let step = step_from c.best.result in
    let more = table-more (piece_cost g hs) c.args.limit (most_of hs) n ps c.loop-last.table.froms.items step table (best-step (piece_cost g hs) c.args.limit ps (n + 1) c.best.result best.1) (λ i before. piece-within g hs i (n + 1) before (omega arith)) in
    let stepped : c.match-best.price ≡ (price_of step, from_of step) = elim c.match-best.branch [
      | in-Some w ↦ w.price-is ∙ ap (λ b. (price_of (step_from b), from_of (step_from b))) (sym w.in-Some.is)
      | in-None w ↦ w.price-is ∙ ap (λ b. (price_of (step_from b), from_of (step_from b))) (sym w.in-None.is)
    ] in
    let prices : c.push.new.self.prices.items ≡ ps ++ (price_of step ∷ []) = c.in_ok-push.ensures.prices ∙ ap (λ p. ps ++ (p.0 ∷ [])) stepped in
    let froms : c.push.new.self.froms.items ≡ c.loop-last.table.froms.items ++ (from_of step ∷ []) = c.in_ok-push.ensures.froms ∙ ap (λ p. c.loop-last.table.froms.items ++ (p.1 ∷ [])) stepped in
    record {
      table = rw (prices, froms) more;
      sound = c.best.ensures.sound;
      tells = rw prices (tells-as g hs (n + 1) ps (ps ++ (price_of step ∷ [])) c.best.new.self c.best.ensures.sound (λ i less. get_or-append ps (price_of step ∷ []) None i (omega (arith, table.number))) best.0);
    }
