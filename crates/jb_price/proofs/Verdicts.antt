-- What follows from the verdicts: an accepted answer is right, and a right answer with least totals is accepted.
use Rattle.std.proofs.Common.{◌≡◌, ℕ, ◌+◌, ◌≤◌, List, [], ◌∷◌, Option, Some, None, Result, Ok, Err, IfOk, ◌⊎◌, inl, inr, sym, ap, ◌∙◌, refl, arith}
use Rattle.std.specs.declared.alloc.AllocError.{AllocError}
use Rattle.std.proofs.lemmas.Bool.{cases_lt}
use Rattle.std.proofs.lemmas.Option.{none-some, same_Some}
use Rattle.jb_cost.specs.Cut.{EachFrom, EachPiece, price, IsPrice, ArePrices, Hold}
use Rattle.jb_cost.proofs.PriceBounds.{lower, exact-hold}
use Rattle.jb_price.specs.declared.certificate.CertAnswer.{CertAnswer}
use Rattle.jb_price.specs.declared.certificate.CertAnswer.TheVariants.{Cut, NoCut}
use Rattle.jb_price.specs.declared.verdict.Verdict.{Verdict}
use Rattle.jb_price.specs.declared.verdict.Verdict.TheVariants.{Accepted, Refused}
use Rattle.jb_price.specs.declared.verdict.Reason.TheVariants.{OpeningPrice, Undercut, NotACut, OverLimit, TotalDiffers, EndPrice}
use Rattle.jb_price.specs.FirstUndercut.{FirstAmong}
use Rattle.jb_price.specs.Verdict.{IsDearer, FirstOverFrom, IsFirstOver, PricesHold, AnswerSays, Says, IsRight}

-- a price is dearer than what it is, or it is at most that
dearer-or : (q : Option ℕ) (p : ℕ) → IsDearer q p ⊎ ((r : ℕ) × (q ≡ Some r) × (r ≤ p))
dearer-or None p = inl tt
dearer-or (Some q) p = elim (cases_lt p q) [ inl less ↦ inl less | inr most ↦ inr (q, refl, most) ]

over-fits : (c : ℕ → ℕ → ℕ) (limit a : ℕ) (bs : List ℕ) (i j : ℕ) → EachFrom (λ i j. c i j ≤ limit) a bs → FirstOverFrom c limit a bs i j → ⊥
over-fits c limit a [] i j fits over = over
over-fits c limit a (b ∷ bs) i j fits (inl later) = over-fits c limit b bs i j fits.1 later.1
over-fits c limit a (b ∷ bs) i j fits (inr here) = omega (arith, here.0, fits.0)

pub over-piece : (c : ℕ → ℕ → ℕ) (limit : ℕ) (bounds : List ℕ) (i j : ℕ) → EachPiece (λ i j. c i j ≤ limit) bounds → IsFirstOver c limit bounds i j → ⊥
over-piece c limit [] i j fits over = over
over-piece c limit (a ∷ bs) i j fits over = over-fits c limit a bs i j fits over

module _ (c : ℕ → ℕ → ℕ) (limit n : ℕ) (ps : List (Option ℕ)) where
  -- prices without an undercut bound every cut that fits
  pub hold : PricesHold c limit n ps → Hold c limit n ps
  hold prices = record {
    start = prices.opening;
    step = λ i j p before within is fits. elim (dearer-or (price ps j) (p + c i j)) [
      | inl dearer ↦ absurd (prices.no_undercut i j (record { before = before; within = within; fits = fits; cheaper = (p, is, dearer) }))
      | inr most ↦ most
    ];
  }

  -- the prices hold where the opening price is 0 and no first undercut was found
  pub prices-hold : (first : Option (ℕ × ℕ)) → FirstAmong c limit n ps n first → first ≡ None → price ps 0 ≡ Some 0 → PricesHold c limit n ps
  prices-hold first looked none opening =
      let looked_all = rw none at looked in
      record { opening = opening; no_undercut = λ i j u. looked_all i j u.within u }

  -- where the prices hold, what a verdict says of the answer it says of the certificate
  pub says-answer : (answer : CertAnswer) → PricesHold c limit n ps → (verdict : Verdict) → AnswerSays c limit n ps answer verdict → Says c limit n ps answer verdict
  says-answer (Cut bounds sum) prices (Refused OpeningPrice) says = absurd says
  says-answer NoCut prices (Refused OpeningPrice) says = absurd says
  says-answer (Cut bounds sum) prices (Refused (Undercut i j)) says = absurd says
  says-answer NoCut prices (Refused (Undercut i j)) says = absurd says
  says-answer answer prices verdict says = (prices, says)

  pub right-accepted : (answer : CertAnswer) → Says c limit n ps answer Accepted → IsRight c limit n answer
  right-accepted (Cut bounds sum) (prices, holds) = (
    record {
      fitting = holds.fitting;
      least = λ other fitting.
          let low = lower c limit n ps (hold prices) other fitting in
          let same = same_Some sum low.0 (sym holds.end_price ∙ low.1) in
          omega (arith, holds.sums, low.2);
    },
    holds.sums,
  )
  right-accepted NoCut (prices, none) = λ other fitting. let low = lower c limit n ps (hold prices) other fitting in none-some low.0 (sym none ∙ low.1)

  prices-exact : ArePrices c limit n ps → PricesHold c limit n ps
  prices-exact are =
      let exact = exact-hold c limit n ps are in
      record {
        opening = exact.start;
        no_undercut = λ i j u.
            let p = u.cheaper.0 in
            let most = exact.step i j p u.before u.within u.cheaper.1 u.fits in
            omega (arith, rw most.1 at u.cheaper.2, most.2);
      }

  answer-exact : (answer : CertAnswer) → ArePrices c limit n ps → IsRight c limit n answer → AnswerSays c limit n ps answer Accepted
  answer-exact (Cut bounds sum) are (least, sums) =
      record { fitting = least.fitting; sums = sums; end_price = go (price ps n) (are.each n (omega arith)) }
    where
      go : (found : Option ℕ) → IsPrice c limit n found → found ≡ Some sum
      go None none = absurd (none bounds.items least.fitting)
      go (Some p) exact = ap Some (let same : p ≡ sum = omega (arith, exact.1 bounds.items least.fitting, least.least exact.0.0 exact.0.1, exact.0.2, sums) in same)
  answer-exact NoCut are none = go (price ps n) (are.each n (omega arith))
    where
      go : (found : Option ℕ) → IsPrice c limit n found → found ≡ None
      go None exact = refl
      go (Some p) exact = absurd (none exact.0.0 exact.0.1)

  only-accepted : (answer : CertAnswer) → PricesHold c limit n ps → AnswerSays c limit n ps answer Accepted → (verdict : Verdict) → Says c limit n ps answer verdict → verdict ≡ Accepted
  only-accepted answer prices holds Accepted says = refl
  only-accepted answer prices holds (Refused OpeningPrice) says = absurd (says prices.opening)
  only-accepted answer prices holds (Refused (Undercut i j)) says = absurd (prices.no_undercut i j says.1.undercuts)
  only-accepted (Cut bounds sum) prices holds (Refused NotACut) says = absurd (says.1 holds.fitting.cut)
  only-accepted (Cut bounds sum) prices holds (Refused (OverLimit i j)) says = absurd (over-piece c limit bounds.items i j holds.fitting.fits says.1.1)
  only-accepted (Cut bounds sum) prices holds (Refused TotalDiffers) says = absurd (says.1.1 holds.sums)
  only-accepted (Cut bounds sum) prices holds (Refused EndPrice) says = absurd (says.1.2 holds.end_price)
  only-accepted NoCut prices holds (Refused EndPrice) says = absurd (says.1 holds)
  only-accepted NoCut prices holds verdict says = absurd says.1

  pub planned-accepted : (answer : CertAnswer) → ArePrices c limit n ps → IsRight c limit n answer → Says c limit n ps answer Accepted × ((verdict : Verdict) → Says c limit n ps answer verdict → verdict ≡ Accepted)
  planned-accepted answer are right =
      let prices = prices-exact are in
      let holds = answer-exact answer are right in
      ((prices, holds), only-accepted answer prices holds)

-- what follows from each value follows where there is one
pub where-ok : (result : Result Verdict AllocError) (P Q : Verdict → Type 0) → ((verdict : Verdict) → P verdict → Q verdict) → IfOk result P → IfOk result Q
where-ok (Ok verdict) P Q gives holds = gives verdict holds
where-ok (Err refused) P Q gives holds = tt
