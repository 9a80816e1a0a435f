use Rattle.std.proofs.Common.{All, refl, ◌∙◌, sym, subst, arith, IsTrue, take_all}
use Rattle.jb_handle.specs.HeldChanges.{FitsWord, Fits}
use Rattle.jb_handle.proofs.EachWord.{all-more, each-word, each-entry}
use Rattle.jb_handle.proofs.words.Words.fit.Goals as goal
use Rattle.jb_handle.proofs.words.Words.fit.Goals.{Then-not-fits}

-- a word for which there is no room is one of the words
here : (c : Then-not-fits) → Fits c.args.shape c.args.self.now → FitsWord c.args.shape c.loop-home-item.result.0 c.loop-home-item.result.1
here c fits =
    let each : All (λ e. FitsWord c.args.shape e.0 e.1) c.entries-home-items.result.now = subst (All (λ e. FitsWord c.args.shape e.0 e.1)) (sym c.entries-home-items.ensures) (each-entry (FitsWord c.args.shape) c.args.self.now fits) in
    subst (λ e. FitsWord c.args.shape e.0 e.1) (sym c.loop-home-item.is) (each c.loop-home.home-index c.loop-home-item.result c.loop-home-test.true)

pub returns-then-not-fits : goal.returns-then-not-fits
returns-then-not-fits c = (λ held. absurd (let h : ⊥ = cc in h), λ fits. subst IsTrue c.if-not-fits.true (c.fits.ensures.1 (here c fits)))

pub loop-home-preserved : goal.loop-home-preserved
loop-home-preserved c =
    all-more (λ e. FitsWord c.args.shape e.0 e.1) c.entries-home-items.result.now c.loop-home.home-index c.loop-home-item.result c.loop-home-test.true c.loop-home.invariant
    (subst (λ e. FitsWord c.args.shape e.0 e.1) c.loop-home-item.is (c.fits.ensures.0 (subst IsTrue (sym c.if-not-fits.false) refl)))

pub returns : goal.returns
returns c = (
  λ held. each-word (FitsWord c.args.shape) c.args.self.now
      (subst (All (λ e. FitsWord c.args.shape e.0 e.1)) (take_all c.loop-home.home-index c.entries-home-items.result.now (omega arith) ∙ c.entries-home-items.ensures) c.loop-home.invariant),
  λ all. refl,
)
