use Rattle.std.proofs.Common.{rules, refl, arith, replicate}
use Rattle.example_store.proofs.TableLemmas.{wrote-all, wrote-more, wrote-none}
use Rattle.example_store.proofs.table.Table.block.Goals as goal

pub loop-at-init : goal.loop-at-init
loop-at-init c = record { long = refl; are = wrote-none c.args.self.now.slots (replicate 1024 0) }

pub loop-at-preserved : goal.loop-at-preserved
loop-at-preserved c = record {
  long = c.put_number-in-loop-at.array_long;
  are = wrote-more c.args.self.now.slots c.loop-at.block c.put_number.new.block c.put_number-in-loop-at.new.block c.loop-at.at _ _
      (search rules) (omega (arith, c.loop-at-test.true, c.loop-at.invariant.long)) c.put_number.ensures.fits c.put_number-in-loop-at.ensures.fits refl
      _ c.put_number.ensures.written (omega (arith, c.loop-at-test.true, c.put_number.array_long)) _ c.put_number-in-loop-at.ensures.written c.loop-at.invariant.are;
}

pub returns : goal.returns
returns c = wrote-all c.args.self.now.slots c.loop-at.block c.loop-at.at (search rules) c.loop-at.invariant.long (omega (arith, c.loop-at-test.false, c.loop-at.auto.at-end)) c.loop-at.invariant.are
