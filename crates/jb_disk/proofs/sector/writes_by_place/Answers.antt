use Rattle.std.proofs.Common.{◌≡◌, ◌<◌, ◌+◌, ◌∷◌, arith, take, set, sym, ◌∙◌, ap, subst}
use Rattle.jb_disk.specs.Calls.{steps_of}
use Rattle.jb_disk.specs.History.{Wrote}
use Rattle.jb_block.proofs.Refusals.{on-refusal}
use Rattle.jb_disk.proofs.ReplayCalls.{write_at, steps_of-more}
use Rattle.jb_disk.proofs.WritesByPlace.{IsTable, table-write, no_sync}
use Rattle.jb_disk.proofs.sector.writes_by_place.Goals as goal
use Rattle.jb_disk.proofs.sector.writes_by_place.Goals.{In-Write, in-Write+in_ok-push, in_default}

-- the place of a write
inside : (c : In-Write) → c.in-Write.place < c.args.count
inside c = (write_at c.args.count c.requires.whole.0 c.args.calls.now c.loop-call.call-index c.requires.whole.1 c.loop-call-test.true c.call-item.is c.in-Write.is).0

pub index_mut-requires : goal.index_mut-requires
index_mut-requires c = omega (arith, inside (goal.at.index_mut-requires c).In-Write, c.loop-call.invariant.places, c.loop-call.table.ok.0)

pub returns-in_err-push-clause-grows : goal.returns-in_err-push-clause-grows
returns-in_err-push-clause-grows c = on-refusal c.from_residual-in_err-push.result (omega (arith, inside (goal.at.returns-in_err-push-clause-grows c).In-Write))

pub loop-call-preserved : goal.loop-call-preserved
loop-call-preserved c =
    let calls = c.args.calls.now in
    let i = c.loop-call.call-index in
    elim c.match-call.branch [
      | in-Write+in_ok-push w ↦
          let at = write_at c.args.count c.requires.whole.0 calls i c.requires.whole.1 c.loop-call-test.true c.call-item.is w.in-Write.is in
          let steps : Wrote w.in-Write.place w.as_slice.result.now ∷ steps_of (take i calls) ≡ steps_of (take (i + 1) calls)
          = ap (λ b. Wrote w.in-Write.place b ∷ steps_of (take i calls)) w.as_slice.ensures.value ∙ sym (steps_of-more calls i c.loop-call-test.true c.call-item.is w.in-Write.is) in
          rw w.table-is (subst (IsTable c.args.count (set c.loop-call.table.items w.in-Write.place w.push.new.self)) steps
          (table-write c.args.count c.loop-call.table.items (steps_of (take i calls)) w.in-Write.place w.index_mut.result.now w.push.new.self w.as_slice.result
          c.loop-call.invariant at.0 w.index_mut.ensures.value w.in_ok-push.ensures.items))
      | in_default w ↦ absurd (no_sync calls i c.call-item.result c.requires.writes c.loop-call-test.true c.call-item.is w.in_default.is)
    ]
