use Rattle.std.proofs.Common.{◌≡◌, [], ◌∷◌, rules, sym, ap, ◌∙◌, refl, Ok, Err, option_copied}
use Rattle.jb_block.specs.Size.{bytes_of}
use Rattle.jb_text.specs.Parts.{words_in}
use Rattle.jb_text.proofs.LineLeft.{none-left}
use Rattle.jb_queue.specs.declared.fault.Cause.TheVariants.{Memory as OutOfMemory}
use Rattle.jb_queue.proofs.Ops.{ReadTo, op-goes, op-fails, gives-on, ops-whole}
use Rattle.jb_queue.proofs.queue_text.read_ops.Goals as goal
use Rattle.jb_queue.proofs.queue_text.read_ops.Goals.{After-next_word, In_default}

pub loop-rest-init : goal.loop-rest-init
loop-rest-init c = rw c.new-gathered.ensures (record { reads = refl; first = λ is. is })

-- what is read up to the next word, and to the end
next : (c : After-next_word) → ReadTo (bytes_of c.args.bs) c.args.text.now c.loop-rest.gathered (c.next_word.result.0.now ∷ words_in (option_copied c.next_word.result.1))
next c = rw (c.in-Some.is, c.next_word.ensures.words) at c.loop-rest.invariant

whole : (c : In_default) → ReadTo (bytes_of c.args.bs) c.args.text.now c.loop-rest.gathered []
whole c = rw (none-left c.loop-rest.rest c.in_default.not-Some) at c.loop-rest.invariant

pub returns-in_err-home-clause-gives : goal.returns-in_err-home-clause-gives
returns-in_err-home-clause-gives c =
    let gave : c.from_residual.result ≡ Err c.in_err-home.field-0.0 = search rules in
    rw gave (gives-on c.in_err-home.field-0.0 _ _ (op-fails (next (goal.at.returns-in_err-home-clause-gives c).After-next_word)) c.in_err-home.ensures.gives)

pub returns-in_err-home-clause-first : goal.returns-in_err-home-clause-first
returns-in_err-home-clause-first c =
    let gave : c.from_residual.result ≡ Err c.in_err-home.field-0.0 = search rules in
    rw gave (λ memory.
    let same : c.in_err-home.field-0.0 ≡ OutOfMemory = cc in
    (next (goal.at.returns-in_err-home-clause-first c).After-next_word).first (c.in_err-home.ensures.judged (ap Err same)))

pub returns-in_err-put-clause-first : goal.returns-in_err-put-clause-first
returns-in_err-put-clause-first c = λ memory. (next (goal.at.returns-in_err-put-clause-first c).After-next_word).first (rw c.in_ok-home.ensures.gives refl)

pub returns-in_err-into_words-clause-first : goal.returns-in_err-into_words-clause-first
returns-in_err-into_words-clause-first c = λ memory. (whole (goal.at.returns-in_err-into_words-clause-first c).In_default).first tt

pub loop-rest-preserved : goal.loop-rest-preserved
loop-rest-preserved c = rw c.in_ok-put.ensures.ok (op-goes (next (goal.at.loop-rest-preserved c).After-next_word) (c.in_ok-home.home, c.in_ok-home.op) c.in_ok-home.ensures.gives)

pub returns-clause-gives : goal.returns-clause-gives
returns-clause-gives c = ops-whole (whole (goal.at.returns-clause-gives c).In_default) ∙ ap Ok (sym c.in_ok-into_words.ensures.ok)
