use Rattle.std.proofs.Common.{rules, refl, arith, ap, sym, subst, length, ◌+◌, ◌∙◌, length-set}
use Rattle.example_store.proofs.TableLemmas.{Freed, free, freed-all, freed-none, freed-one}
use Rattle.example_store.proofs.table.Table.delete.Goals as goal
use Rattle.example_store.proofs.table.Table.delete.Goals.{then-self-at, else-self-at}

pub loop-at-init : goal.loop-at-init
loop-at-init c = record { long = search rules; freed = record { others = λ other some differ. refl; gone = λ some. refl } }

pub loop-at-preserved : goal.loop-at-preserved
loop-at-preserved c = elim c.if-self-at.branch [
  | then-self-at w ↦ record {
    long = ap (λ t. length t.slots) w.self-is ∙ (length-set c.loop-at.self.slots c.loop-at.at free ∙ c.loop-at.invariant.long);
    freed = subst (λ t. Freed c.args.key c.args.self.now.slots t.slots (c.loop-at.at + 1)) (sym w.self-is)
        (freed-one c.args.key c.args.self.now.slots c.loop-at.self.slots c.loop-at.at (omega (arith, c.loop-at.invariant.long, c.loop-at-test.true)) w.if-self-at.true c.loop-at.invariant.freed);
  }
  | else-self-at w ↦ record {
    long = ap (λ t. length t.slots) w.self-is ∙ c.loop-at.invariant.long;
    freed = subst (λ t. Freed c.args.key c.args.self.now.slots t.slots (c.loop-at.at + 1)) (sym w.self-is)
        (freed-none c.args.key c.args.self.now.slots c.loop-at.self.slots c.loop-at.at (omega (arith, c.loop-at.invariant.long, c.loop-at-test.true)) w.if-self-at.false c.loop-at.invariant.freed);
  }
]

pub returns : goal.returns
returns c = freed-all c.args.key c.args.self.now.slots c.loop-at.self.slots c.loop-at.at (omega (arith, c.loop-at.invariant.long, c.loop-at-test.false)) c.loop-at.invariant.freed
