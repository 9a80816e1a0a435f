use Rattle.std.proofs.Common.{◌≡◌, ◌∷◌, rules, refl, Err, option_copied}
use Rattle.std.specs.FinMap as map
use Rattle.jb_block.specs.Size.{bytes_of}
use Rattle.jb_text.specs.Parts.{words_in}
use Rattle.jb_text.proofs.LineLeft.{none-left}
use Rattle.jb_queue.proofs.Ops.{ReadTo, op-goes, op-fails, gives-on, ops-whole}
use Rattle.jb_queue.proofs.queue_lines.check_ops.Goals as goal
use Rattle.jb_queue.proofs.queue_lines.check_ops.Goals.{After-next_word}

pub loop-rest-init : goal.loop-rest-init
loop-rest-init c = (map.empty, record { reads = refl; first = λ is. is })

-- what is read up to the next word
next : (c : After-next_word) → ReadTo (bytes_of c.args.bs) c.args.text.now c.loop-rest.invariant.0 (c.next_word.result.0.now ∷ words_in (option_copied c.next_word.result.1))
next c = rw (c.in-Some.is, c.next_word.ensures.words) at c.loop-rest.invariant.1

pub returns-in_err-_op-clause-judges : goal.returns-in_err-_op-clause-judges
returns-in_err-_op-clause-judges c =
    let gave : c.from_residual.result ≡ Err c.in_err-_op.field-0.0 = search rules in
    rw gave (gives-on c.in_err-_op.field-0.0 _ _ (op-fails (next (goal.at.returns-in_err-_op-clause-judges c).After-next_word)) c.in_err-_op.ensures.gives)

pub loop-rest-preserved-in_ok-_op : goal.loop-rest-preserved-in_ok-_op
loop-rest-preserved-in_ok-_op c = (_, op-goes (next (goal.at.loop-rest-preserved-in_ok-_op c).After-next_word) c.in_ok-_op._op c.in_ok-_op.ensures.gives)

pub loop-rest-preserved : goal.loop-rest-preserved
loop-rest-preserved c = (_, op-goes (next (goal.at.loop-rest-preserved c).After-next_word) c.in_ok-_op._op c.in_ok-_op.ensures.gives)

pub returns-clause-judges : goal.returns-clause-judges
returns-clause-judges c = rw (ops-whole (rw (none-left c.loop-rest.rest c.in_default.not-Some) at c.loop-rest.invariant.1)) refl
