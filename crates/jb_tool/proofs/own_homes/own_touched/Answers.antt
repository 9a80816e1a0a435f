use Rattle.std.proofs.Common.{◌≡◌, ◌+◌, ap, subst, sym, ◌∙◌, arith, Ok}
use Rattle.jb_queue.specs.QueueLines.{HasRead, handles_of}
use Rattle.jb_tool.proofs.OwnHomes.{own-here, own-later, stands-next}
use Rattle.jb_tool.proofs.own_homes.own_touched.Goals as goal

pub returns-in_default-clause-own : goal.returns-in_default-clause-own
returns-in_default-clause-own g c =
    let all = handles_of c.args.queue.now in
    let at = c.loop-at.at in
    let has = subst (HasRead all (at + 0) c.read.new.self) (c.in_ok-words.was ∙ ap Ok c.in_default.is) (c.read.ensures all at c.loop-at.invariant.placed) in
    absurd (let h : ⊥ = omega (arith, has.0, c.loop-at-test.true, c.len-at-end.ensures.value) in h)

pub returns-in-Some-own_of-clause-own : goal.returns-in-Some-own_of-clause-own
returns-in-Some-own_of-clause-own g c =
    let all = handles_of c.args.queue.now in
    let at = c.loop-at.at in
    let has = subst (HasRead all (at + 0) c.read.new.self) (c.in_ok-words.was ∙ ap Ok c.in-Some.is) (c.read.ensures all at c.loop-at.invariant.placed) in
    sym (own-here c.args.disk.now all at (at + 0) (omega arith) c.read.new.self c.in-Some.words has c.loop-at.invariant.rest c.in-Some-own_of.home (sym c.own_of.ensures ∙ c.in-Some-own_of.is))

pub loop-at-preserved : goal.loop-at-preserved
loop-at-preserved g c =
    let all = handles_of c.args.queue.now in
    let at = c.loop-at.at in
    let has = subst (HasRead all (at + 0) c.read.new.self) (c.in_ok-words.was ∙ ap Ok c.in-Some.is) (c.read.ensures all at c.loop-at.invariant.placed) in
    let same : at + 0 ≡ at = omega arith in
    record {
      placed = stands-next c.args.disk.now all at (at + 0) same c.read.new.self c.in-Some.words has c.loop-at.invariant.rest;
      rest = own-later c.args.disk.now all at (at + 0) same c.read.new.self c.in-Some.words has c.loop-at.invariant.rest (sym c.own_of.ensures ∙ c.in_default-own_of.is);
    }
