use Rattle.std.proofs.Common.{◌≡◌, ◌<◌, ◌+◌, ◌-◌, ◌*◌, ℕ, take, drop, set, refl, ◌∙◌, sym, ap, subst, arith, IsOk}
use Rattle.jb_disk.specs.OneCall.{Writes}
use Rattle.jb_disk.specs.Runs.{part, TornRun}
use Rattle.jb_disk.specs.Steps.{Steps}
use Rattle.jb_disk.proofs.KeptOverCalls.{kept_ok}
use Rattle.jb_disk.proofs.RunReads.{made-more, not_spent, refused-first}
use Rattle.jb_disk.proofs.RunWrites.{part-slice, torn_run-next, wrote_run-more, steps-run}
use Rattle.jb_disk.proofs.disk.Disk.write_run.Given.{Over}
use Rattle.jb_disk.proofs.disk.Disk.write_run.Goals.{After-write}
use Rattle.jb_disk.proofs.disk.Disk.write_run.Goals as goal

-- the bytes of the block that is written
slice : (g : Over) (c : After-write g)
    → take (c.bytes-size.result * c.loop-k.k + c.bytes-size.result - c.bytes-size.result * c.loop-k.k) (drop (c.bytes-size.result * c.loop-k.k) c.args.bytes.now)
    ≡ part (g.Self.Disk.size c.args.self.now) c.loop-k.k c.args.bytes.now
slice g c = part-slice (g.Self.Disk.size c.args.self.now) c.bytes-size.result c.loop-k.k c.args.bytes.now (c.bytes-size.ensures.value ∙ c.block_size.ensures)

-- a longer run is torn
torn : (g : Over) (c : After-write g) (n : ℕ) → c.loop-k.k < n → g.Self.Disk.honest c.write.new.self
    → TornRun (g.Self.Disk.size c.args.self.now) n c.args.place c.args.bytes.now (g.Self.Disk.newest c.args.self.now) (g.Self.Disk.newest c.write.new.self)
torn g c n few honest =
    torn_run-next _ c.loop-k.k n c.args.place c.args.bytes.now _ _ _ few (c.loop-k.invariant.torn (c.write.ensures.kept.was_honest honest)) (rw (slice g c) at c.write.ensures.torn honest)

-- whatever a crash leaves
steps : (g : Over) (c : After-write g) (n : ℕ) → c.loop-k.k < n → g.Self.Disk.honest c.write.new.self
    → Steps g.Self.Disk.may_leave g.Self.Disk.moment g.Self.Disk.left_since (TornRun (g.Self.Disk.size c.args.self.now) n c.args.place c.args.bytes.now) c.args.self.now c.write.new.self
steps g c n few honest =
    let was = c.write.ensures.kept.was_honest honest in
    steps-run _ _ _ _ c.loop-k.k n c.args.place c.args.bytes.now _ _ _ few (λ d left. g.met.Self.Disk.only_now c.loop-k.self d was left)
    (c.loop-k.invariant.steps was) (rw (slice g c) at c.write.ensures.goes honest)

pub returns-in_err-write-clause-spent : goal.returns-in_err-write-clause-spent
returns-in_err-write-clause-spent g c = λ burnt. (
  c.from_residual.ensures.0,
  refused-first g.Self.Disk c.loop-k.k c.args.self.now c.loop-k.self c.write.new.self
      c.loop-k.invariant.untried c.loop-k.invariant.passed (λ is. (c.write.ensures.spent is).1) burnt,
)

pub returns-in_err-write-clause-torn : goal.returns-in_err-write-clause-torn
returns-in_err-write-clause-torn g c = torn g (goal.at.returns-in_err-write-clause-torn g c).After-write c.args.blocks c.loop-k-test.true

pub returns-in_err-write-clause-steps : goal.returns-in_err-write-clause-steps
returns-in_err-write-clause-steps g c = steps g (goal.at.returns-in_err-write-clause-steps g c).After-write c.args.blocks c.loop-k-test.true

pub loop-k-preserved : goal.loop-k-preserved
loop-k-preserved g c =
    let G = g.Self.Disk in
    let at = (goal.at.loop-k-preserved g c).After-write in
    let so = c.loop-k.invariant in
    let now = c.loop-k.self in
    let k = c.loop-k.k in
    record {
      kept = kept_ok so.kept c.in_ok-write.ensures.kept;
      made = made-more G.own (λ j. Writes (c.args.place + j) (part (G.size c.args.self.now) j c.args.bytes.now)) k _ now _ so.made (rw (slice g at) at c.in_ok-write.ensures.own);
      written = λ honest.
          let was = c.write.ensures.kept.was_honest honest in
          let shape = g.met.Self.Disk.has_shape now (G.newest now) was (g.met.Self.Disk.newest_may_stay now was) in
          wrote_run-more _ k c.args.place c.args.bytes.now _ (G.newest now) _ (omega (arith, shape.blocks, so.kept.same_count, c.loop-k-test.true, c.requires.run.within))
          (so.written was) (c.in_ok-write.ensures.written honest ∙ ap (λ b. set (G.newest now) (c.args.place + k) b) (slice g at));
      torn = torn g at (k + 1) (omega arith);
      steps = steps g at (k + 1) (omega arith);
      untried = λ none. absurd (let h : ⊥ = omega (arith, none) in h);
      passed = λ some. not_spent G k _ now c.write.result so.untried so.passed (λ burnt. (c.write.ensures.spent burnt).0) (subst IsOk (sym c.in_ok-write.was) refl);
    }
