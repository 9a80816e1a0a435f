use Rattle.std.proofs.Common.{refl, arith}
use Rattle.std.proofs.lemmas.List.{drop_all, drop_more}
use Rattle.std.proofs.Common.{get_or}
use Rattle.jb_dump.proofs.PictureColumns.{counted-more}
use Rattle.jb_dump.proofs.picture.begun_in.Goals as goal

pub loop-size-init : goal.loop-size-init
loop-size-init c = record { few = omega arith; counted = λ few. record { rest = omega arith; behind = omega arith } }

pub loop-size-preserved : goal.loop-size-preserved
loop-size-preserved c =
    let sizes = c.args.sizes.now in
    let i = c.loop-size.size-index in
    record {
      few = omega (arith, c.loop-size.invariant.few, c.one_in-begun.ensures.most);
      counted = λ few.
          counted-more c.args.sb.now sizes c.args.column i c.loop-size.at c.loop-size.begun c.one_in-begun.result (get_or sizes i 0) _ few (c.loop-size.invariant.counted few)
          (drop_more sizes i 0 c.loop-size-test.true) c.one_in-begun.ensures.value refl;
    }

pub returns : goal.returns
returns c few =
    let none = drop_all c.loop-size.size-index c.args.sizes.now (omega (arith, c.loop-size-test.false)) in
    let all = rw none at (c.loop-size.invariant.counted few).rest in
    omega (arith, all)
