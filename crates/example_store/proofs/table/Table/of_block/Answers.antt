use Rattle.std.proofs.Common.{rules, refl, arith}
use Rattle.example_store.proofs.TableLemmas.{read-all, read-more}
use Rattle.example_store.proofs.table.Table.of_block.Goals as goal

pub loop-at-init : goal.loop-at-init
loop-at-init c = record { long = refl; are = refl }

pub loop-at-preserved : goal.loop-at-preserved
loop-at-preserved c = record {
  long = search rules;
  are = read-more c.args.block.now c.loop-at.slots c.loop-at.at c.number_at.result c.number_at-in-loop-at.result c.loop-at.invariant.long c.loop-at-test.true c.number_at.ensures c.number_at-in-loop-at.ensures c.loop-at.invariant.are;
}

pub returns : goal.returns
returns c = read-all c.args.block.now c.loop-at.slots c.loop-at.at c.loop-at.invariant.long (omega (arith, c.loop-at-test.false, c.loop-at.auto.at-end)) c.loop-at.invariant.are
