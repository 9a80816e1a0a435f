use Rattle.std.proofs.Common.{◌≡◌, ◌<◌, ◌≤◌, ◌*◌, ◌+◌, length, refl, ◌∙◌, sym, ap, subst, rules, arith, IsOk}
use Rattle.std.proofs.lemmas.Result.{IfOk-from_err}
use Rattle.jb_disk.specs.OneCall.{AllMade, AreMade, Reads}
use Rattle.jb_disk.specs.Image.{block}
use Rattle.jb_disk.proofs.KeptOverCalls.{kept_ok, reads_on}
use Rattle.jb_disk.proofs.RunReads.{err_is, made-more, not_spent, reads-more, refused-first}
use Rattle.jb_disk.proofs.CallSteps.{goes-on}
use Rattle.jb_disk.proofs.disk.Disk.read_run.Goals as goal

pub returns-in_err-read-clause-spent : goal.returns-in_err-read-clause-spent
returns-in_err-read-clause-spent g c = λ burnt. (
  c.from_residual.ensures.0,
  refused-first g.Self.Disk c.loop-k.k c.args.self.now c.loop-k.self c.read.new.self
      c.loop-k.invariant.untried c.loop-k.invariant.passed (λ is. (c.read.ensures.spent is).1) burnt,
)

pub returns-in_err-read-clause-found : goal.returns-in_err-read-clause-found
returns-in_err-read-clause-found g c = λ honest. IfOk-from_err c.from_residual.result _ c.from_residual.ensures.0

pub returns-in_err-read-clause-goes : goal.returns-in_err-read-clause-goes
returns-in_err-read-clause-goes g c = λ honest.
    let was = c.read.ensures.kept.was_honest honest in
    let so = c.loop-k.invariant in
    goes-on _ _ _ _ _ _ _ (λ t d earlier left. g.met.Self.Disk.counts_now c.args.self.now t d (so.kept.was_honest was) earlier left) (so.goes was) (c.read.ensures.goes honest)

pub returns-in_err-read-clause-own : goal.returns-in_err-read-clause-own
returns-in_err-read-clause-own g c = record {
  own = λ _. subst (AreMade g.Self.Disk.own (λ j. Reads (c.args.place + j)) c.args.blocks c.args.self.now c.read.new.self) (sym (err_is c.from_residual.result c.from_residual.ensures.0))
      (c.loop-k.k, omega (arith, c.loop-k-test.true), c.loop-k.self, c.loop-k.invariant.made, c.in_err-read.ensures.own.own);
  unsynced = reads_on c.loop-k.invariant.reads c.read.ensures.own.unsynced;
}

pub returns-clause-own : goal.returns-clause-own
returns-clause-own g c = record {
  own = λ _.
      subst (λ n. AllMade g.Self.Disk.own (λ j. Reads (c.args.place + j)) n c.args.self.now c.loop-k.self)
      (let all : c.loop-k.k ≡ c.args.blocks = omega arith in all) c.loop-k.invariant.made;
  unsynced = c.loop-k.invariant.reads;
}

pub loop-k-preserved : goal.loop-k-preserved
loop-k-preserved g c =
    let G = g.Self.Disk in
    let so = c.loop-k.invariant in
    let old = c.args.self.now in
    let now = c.loop-k.self in
    let bytes = c.bytes-size.result in
    let k = c.loop-k.k in
    let buf = c.loop-k.buf in
    let size : bytes ≡ G.size old = c.bytes-size.ensures.value ∙ c.block_size.ensures in
    let long : length c.read.new.buf ≡ bytes = search rules in
    let room : length buf ≡ bytes * c.args.blocks = c.loop-k.auto.buf ∙ c.requires.run.long ∙ ap (λ s. s * c.args.blocks) (sym size) in
    let below : k < c.args.blocks = omega (arith, c.loop-k-test.true) in
    let within : bytes * k + bytes ≤ length buf = grind (arith, room, below) in
    record {
      kept = kept_ok so.kept c.in_ok-read.ensures.kept;
      made = made-more G.own (λ j. Reads (c.args.place + j)) k old now c.read.new.self so.made c.in_ok-read.ensures.own.own;
      found = λ honest.
          let was = c.read.ensures.kept.was_honest honest in
          rw (← size) (reads-more bytes k c.args.place _ (G.newest old) buf c.read.new.buf (omega arith) long within (rw (← size) at so.found was)
          (c.in_ok-read.ensures.found honest ∙ ap (λ d. block d (c.args.place + k)) (so.same_newest was)));
      same_newest = λ honest. c.read.ensures.newest honest ∙ so.same_newest (c.read.ensures.kept.was_honest honest);
      goes = λ honest.
          let was = c.read.ensures.kept.was_honest honest in
          goes-on _ _ _ _ _ _ _ (λ t d earlier left. g.met.Self.Disk.counts_now old t d (so.kept.was_honest was) earlier left) (so.goes was) (c.read.ensures.goes honest);
      reads = reads_on so.reads c.read.ensures.own.unsynced;
      untried = λ none. absurd (let h : ⊥ = omega (arith, none) in h);
      passed = λ some. not_spent G k old now c.read.result so.untried so.passed (λ burnt. (c.read.ensures.spent burnt).0) (subst IsOk (sym c.in_ok-read.was) refl);
    }
