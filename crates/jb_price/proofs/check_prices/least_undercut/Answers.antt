use Rattle.std.proofs.Common.{◌≡◌, ◌-◌, Bool, true, false, length, slice_range, refl, arith}
use Rattle.jb_cost.specs.Cut.{piece_cost}
use Rattle.jb_cost.proofs.PieceCosts.{piece-dearer}
use Rattle.jb_cost.proofs.Footprints.{walk-room, stepped-left}
use Rattle.jb_price.proofs.UndercutSteps.{least-cheaper, least-kept, least-all}
use Rattle.jb_price.proofs.check_prices.least_undercut.Goals as goal
use Rattle.jb_price.proofs.check_prices.least_undercut.Goals.{else-loop-from-test, then-loop-from-test+in_ok-cost+then-cost-from}

pub add_left-requires : goal.add_left-requires
add_left-requires c =
    record {
      room = walk-room c.args.geometry c.args.handles.now c.index-handles-from.result c.loop-from.from c.args.end c.loop-from-test.true c.loop-from.auto.from c.requires.end_in c.index-handles-from.is c.loop-from.footprint c.requires.size c.loop-from.invariant.covers;
    }

pub loop-from-preserved-then-is_cheaper : goal.loop-from-preserved-then-is_cheaper
loop-from-preserved-then-is_cheaper c =
    let g = c.args.geometry in
    let hs = c.args.handles.now in
    let k = c.loop-from.from in
    let added = c.in_ok-cost.ensures.ok g (slice_range hs k c.args.end) c.loop-from.invariant.covers in
    let stepped = stepped-left g hs c.index-handles-from.result k c.args.end c.loop-from-test.true c.loop-from.auto.from c.requires.end_in c.index-handles-from.is c.add_left.new.self c.in_ok-cost.cost added in
    record {
      covers = stepped.0;
      looked = least-cheaper (piece_cost g hs) c.args.limit (length hs) c.args.prices.now (k - 1) c.args.end c.in_ok-cost.cost stepped.1 (omega (arith, c.if-cost-from.false, c.from.ensures)) (omega arith) c.requires.end_in (c.if-is_cheaper.ensures.0 refl);
    }

pub loop-from-preserved : goal.loop-from-preserved
loop-from-preserved c =
    let g = c.args.geometry in
    let hs = c.args.handles.now in
    let k = c.loop-from.from in
    let added = c.in_ok-cost.ensures.ok g (slice_range hs k c.args.end) c.loop-from.invariant.covers in
    let stepped = stepped-left g hs c.index-handles-from.result k c.args.end c.loop-from-test.true c.loop-from.auto.from c.requires.end_in c.index-handles-from.is c.add_left.new.self c.in_ok-cost.cost added in
    record {
      covers = stepped.0;
      looked = least-kept (piece_cost g hs) c.args.limit (length hs) c.args.prices.now (k - 1) k c.args.end c.in_ok-cost.cost c.loop-from.least (omega arith) c.loop-from.invariant.looked stepped.1 (λ cheaper. let e : ◌≡◌ {A = Bool} false true = c.if-is_cheaper.ensures.1 cheaper in cc);
    }

pub returns : goal.returns
returns c =
    let g = c.args.geometry in
    let hs = c.args.handles.now in
    let k = c.loop-from.from in
    elim c.loop-from-test.branch [
      | else-loop-from-test w ↦
          let none : k ≡ 0 = omega arith in
          rw none at c.loop-from.invariant.looked
      | then-loop-from-test+in_ok-cost+then-cost-from w ↦
          let h = w.index-handles-from.result in
          let added = w.in_ok-cost.ensures.ok g (slice_range hs k c.args.end) c.loop-from.invariant.covers in
          let cost = (stepped-left g hs h k c.args.end w.loop-from-test.true c.loop-from.auto.from c.requires.end_in w.index-handles-from.is w.add_left.new.self w.in_ok-cost.cost added).1 in
          least-all (piece_cost g hs) c.args.limit (length hs) c.args.prices.now k c.args.end c.loop-from.least c.loop-from.invariant.looked
          (λ i earlier.
          let dearer = piece-dearer g hs h (k - 1 - i) i (k - 1) c.args.end c.requires.end_in (omega arith) (omega arith) in
          omega (arith, w.if-cost-from.true, w.from.ensures))
    ]
