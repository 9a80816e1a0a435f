use Rattle.std.proofs.Common.{subst, arith}
use Rattle.jb_dump.specs.Summary.{summary_of}
use Rattle.jb_dump.specs.LogTotals.{AreTallied, IsTallyOf}
use Rattle.jb_dump.proofs.SumByBlock.{tally-more}
use Rattle.jb_dump.proofs.log_totals.add_to.Goals as goal

pub add-requires : goal.add-requires
add-requires c =
    let (ts, tallied, few) = c.requires.room in
    let is : IsTallyOf (summary_of ts) c.in-Some.tally = subst (AreTallied ts) c.in-Some.is tallied in
    record {
      low = is.low;
      few = omega (arith, is.count, is.few, few);
      room = omega (arith, is.blocks, few);
    }

pub returns-clause-tallied : goal.returns-clause-tallied
returns-clause-tallied c ts tallied =
    let is : IsTallyOf (summary_of ts) c.in-Some.tally = subst (AreTallied ts) c.in-Some.is tallied in
    tally-more ts c.args.transaction.now c.in-Some.tally c.add.new.self is c.in_ok-add.ensures
