-- A certificate's text is read exactly where it spells a claim, and else has a first fault.
use Rattle.std.proofs.Common.{subst, ◌≡◌, ◌↔◌, ◌∙◌, sym, ap, ℕ, ◌+◌, ◌<◌, ◌==◌, true, false, List, [], ◌∷◌, ◌++◌, length, map, refl, arith, Option, Some, None, Result, Ok, Err, inl, inr, codes, decimal, MatchResult, eq-eqb, eqb-true, ne_eqb}
use Rattle.std.specs.List.{AllByRecursion}
use Rattle.std.proofs.lemmas.Result.{MatchResult-at_ok, MatchResult-weaker, MatchResult-at_err}
use Rattle.jb_text.specs.Parts.{◌>>=◌, lines, spaced, read_first}
use Rattle.jb_text.specs.Lines.{AreLines}
use Rattle.jb_text.proofs.Joins.{literal-without}
use Rattle.jb_text.proofs.Grammar.{lines-are, are-lines, IsLine}
use Rattle.jb_text.proofs.ReadSteps.{first-by, then-says, if-says, first-none}
use Rattle.jb_price.specs.declared.fault.CertFault.{CertFault}
use Rattle.jb_price.specs.declared.fault.CertFault.TheVariants.{Length}
use Rattle.jb_price.specs.Claims.{Claim, cut_in, on_line, at_end, with_total, claim_in, for_handles, read_of}
use Rattle.jb_price.specs.ReadBack.{Fits64, PriceFits}
use Rattle.jb_price.specs.Grammar.{first_line, cut_lines, CutFits, SpellsClaim}
use Rattle.jb_price.specs.Faults.{TotalFault, CutFault, SyntaxFault, FirstCertFault, LengthFault}
use Rattle.jb_price.proofs.CertLines.{prices-form, cut_line, BoundsFit, cut-form, total-form, first-clear, second-clear, third-clear}

-- the last lines say a total for the bounds of the cut
abbrev pub SayTotal : List ℕ → List (List ℕ) → Option (List ℕ × ℕ) → Type 0
SayTotal bounds all cut = (total : ℕ) × (cut ≡ Some (bounds, total)) × (all ≡ (codes "total " ++ decimal total) ∷ []) × Fits64 total

total-says : (bounds : List ℕ) (all : List (List ℕ)) → MatchResult (with_total (Some bounds) all) (SayTotal bounds all) (TotalFault all)
total-says bounds all =
    first-by total-form (λ got. MatchResult (on_line 3 got >>= λ t. at_end 4 (Some (bounds, t.0)) t.1) (SayTotal bounds all) (TotalFault all)) all
    (λ none. inl (refl, λ more after. none after.total more after.parts after.fits)) by
  where
    by : (total : ℕ) (more : List (List ℕ)) → all ≡ (codes "total " ++ decimal total) ∷ more → Fits64 total → MatchResult (at_end 4 (Some (bounds, total)) more) (SayTotal bounds all) (TotalFault all)
    by total [] is fits = (total, refl, is, fits)
    by total (next ∷ last) is fits = inr (refl, record { line = next; last = last; after = record { total = total; fits = fits; parts = is } })

-- the claim of lines, from after the first line
abbrev pub behind_prices : List (Option ℕ) → List (List ℕ) → Result Claim CertFault
behind_prices prices rest = do
  bounds ← on_line 2 (read_first cut_in rest)
  cut ← with_total bounds.0 bounds.1
  Ok (record { prices = prices; cut = cut })

-- lines say the cut of a claim, after that of these prices
abbrev pub SayCut : List (Option ℕ) → List (List ℕ) → Claim → Type 0
SayCut prices all claim = (prices ≡ claim.prices) × (all ≡ cut_lines claim.cut) × CutFits claim.cut

cut-says : (prices : List (Option ℕ)) (all : List (List ℕ)) → MatchResult (behind_prices prices all) (SayCut prices all) (CutFault all)
cut-says prices all =
    first-by cut-form (λ got. MatchResult (on_line 2 got >>= λ b. with_total b.0 b.1 >>= λ cut. Ok (record { prices = prices; cut = cut })) (SayCut prices all) (CutFault all)) all
    (λ none. inl (refl, record { none = λ more is. none None more is tt; bounds = λ more after. none (Some after.bounds) more after.parts (after.some, after.fit) })) by
  where
    by : (cut : Option (List ℕ)) (more : List (List ℕ)) → all ≡ cut_line cut ∷ more → BoundsFit cut
        → MatchResult (with_total cut more >>= λ cut. Ok (record { prices = prices; cut = cut })) (SayCut prices all) (CutFault all)
    by None [] is fits = (refl, is, tt)
    by None (next ∷ last) is fits = inr (inl (refl, record { line = next; last = last; parts = is }))
    by (Some bounds) more is fits =
        then-says _ _ (with_total (Some bounds) more) (λ cut. Ok (record { prices = prices; cut = cut })) (total-says bounds more)
        (λ cut total. rw total.1 (refl, is ∙ ap (λ ls. (codes "cut" ++ spaced (map decimal bounds)) ∷ ls) total.2, (fits.0, fits.1, total.3)))
        (λ fault wrong. inr (inr (record { more = more; after = record { bounds = bounds; some = fits.0; fit = fits.1; parts = is }; wrong = wrong })))

-- the lines that say a claim
pub record SayClaim (all : List (List ℕ)) (claim : Claim) : Type 0 where
  pub whole : all ≡ first_line claim.prices ∷ cut_lines claim.cut
  pub some : 0 < length claim.prices
  pub prices_fit : AllByRecursion PriceFits claim.prices
  pub cut_fits : CutFits claim.cut

claim-says : (all : List (List ℕ)) → MatchResult (claim_in all) (SayClaim all) (SyntaxFault all)
claim-says all =
    first-by prices-form (λ got. MatchResult (on_line 1 got >>= λ p. behind_prices p.0 p.1) (SayClaim all) (SyntaxFault all)) all
    (λ none. inl (refl, λ more after. none after.prices more after.parts (after.some, after.fit)))
    (λ prices rest is fits. MatchResult-weaker (behind_prices prices rest) (cut-says prices rest)
    (λ claim says. record {
      whole = is ∙ ap (λ ls. first_line prices ∷ ls) says.1 ∙ ap (λ ps. first_line ps ∷ cut_lines claim.cut) says.0;
      some = subst (λ ps. 0 < length ps) says.0 fits.0;
      prices_fit = subst (AllByRecursion PriceFits) says.0 fits.1;
      cut_fits = says.2;
    })
    (λ fault wrong. inr (record { more = rest; after = record { prices = prices; some = fits.0; fit = fits.1; parts = is }; wrong = wrong })))

pub read-says : (handles : ℕ) (text : List ℕ) → MatchResult (read_of handles text) (SpellsClaim handles text) (FirstCertFault handles text)
read-says handles text =
    then-says _ _ (claim_in (lines text)) (for_handles handles) (claim-says (lines text))
    (λ claim say. if-says _ _ (length claim.prices == handles + 1) (Ok claim) (Err Length)
    (λ same. record {
      spelled = subst (λ ls. AreLines ls text) say.whole (lines-are text);
      one_more = eqb-true (length claim.prices) (handles + 1) same;
      prices_fit = say.prices_fit;
      cut_fits = say.cut_fits;
    })
    (λ other. inr (
      refl,
      record {
        claim = claim;
        some = say.some;
        fit = say.prices_fit;
        cut_fits = say.cut_fits;
        parts = say.whole;
        other = λ same. let never : true ≡ false = sym (eq-eqb (length claim.prices) (handles + 1) same) ∙ other in cc;
      },
    )))
    (λ fault wrong. inl wrong)

-- and back
lines-of : (prices : List (Option ℕ)) (cut : Option (List ℕ × ℕ)) → AllByRecursion PriceFits prices → CutFits cut → AllByRecursion IsLine (first_line prices ∷ cut_lines cut)
lines-of prices None fit cut_fits = ((omega arith, first-clear prices fit), ((omega arith, literal-without 10 (codes "cut none") refl), tt))
lines-of prices (Some cut) fit cut_fits = ((omega arith, first-clear prices fit), ((omega arith, second-clear cut.0 cut_fits.1), ((omega arith, third-clear cut.1 cut_fits.2), tt)))

pub claim-from : (prices : List (Option ℕ)) (cut : Option (List ℕ × ℕ)) → 0 < length prices → AllByRecursion PriceFits prices → CutFits cut → claim_in (first_line prices ∷ cut_lines cut) ≡ Ok (record { prices = prices; cut = cut })
claim-from prices None some fit cut_fits = rw (prices-form.back prices (some, fit)) refl
claim-from prices (Some cut) some fit cut_fits = rw (prices-form.back prices (some, fit), cut-form.back (Some cut.0) (cut_fits.0, cut_fits.1), total-form.back cut.1 cut_fits.2) refl

pub read-from : (handles : ℕ) (text : List ℕ) (claim : Claim) → SpellsClaim handles text claim → read_of handles text ≡ Ok claim
read-from handles text claim spells =
    let some : 0 < length claim.prices = omega (arith, spells.one_more) in
    let parts = are-lines (first_line claim.prices ∷ cut_lines claim.cut) text spells.spelled (lines-of claim.prices claim.cut spells.prices_fit spells.cut_fits) in
    let right : (length claim.prices == handles + 1) ≡ true = eq-eqb (length claim.prices) (handles + 1) spells.one_more in
    ap (λ ls. claim_in ls >>= for_handles handles) parts ∙ rw (claim-from claim.prices claim.cut some spells.prices_fit spells.cut_fits, right) refl

pub spelled : (handles : ℕ) (text : List ℕ) (claim : Claim) → (read_of handles text ≡ Ok claim) ↔ SpellsClaim handles text claim
spelled handles text claim = (λ reads. MatchResult-at_ok (SpellsClaim handles text) (FirstCertFault handles text) claim reads (read-says handles text), read-from handles text claim)

-- ---- and the first fault of a text is the one at which reading ends

total-read : (bounds : List ℕ) (more : List (List ℕ)) (fault : CertFault) → TotalFault more fault → with_total (Some bounds) more ≡ Err fault
total-read bounds more fault (inl wrong) = rw (first-none total-form more (λ total rest is fits. wrong.1 rest (record { total = total; fits = fits; parts = is }))) (ap Err (sym wrong.0))
total-read bounds more fault (inr wrong) =
    let after = wrong.1.after in
    ap (with_total (Some bounds)) after.parts ∙ rw (total-form.back after.total after.fits) (ap Err (sym wrong.0))

cut-read : (prices : List (Option ℕ)) (rest : List (List ℕ)) (fault : CertFault) → CutFault rest fault → behind_prices prices rest ≡ Err fault
cut-read prices rest fault (inl wrong) = rw (first-none cut-form rest none) (ap Err (sym wrong.0))
  where
    none : (cut : Option (List ℕ)) (more : List (List ℕ)) → rest ≡ cut_line cut ∷ more → BoundsFit cut → ⊥
    none None more is fits = wrong.1.none more is
    none (Some bounds) more is fits = wrong.1.bounds more (record { bounds = bounds; some = fits.0; fit = fits.1; parts = is })
cut-read prices rest fault (inr (inl wrong)) = ap (behind_prices prices) wrong.1.parts ∙ ap Err (sym wrong.0)
cut-read prices rest fault (inr (inr at)) =
    let after = at.after in
    ap (behind_prices prices) after.parts
    ∙ rw (cut-form.back (Some after.bounds) (after.some, after.fit), total-read after.bounds at.more fault at.wrong) refl

syntax-read : (all : List (List ℕ)) (fault : CertFault) → SyntaxFault all fault → claim_in all ≡ Err fault
syntax-read all fault (inl wrong) = rw (first-none prices-form all (λ prices more is fits. wrong.1 more (record { prices = prices; some = fits.0; fit = fits.1; parts = is }))) (ap Err (sym wrong.0))
syntax-read all fault (inr at) =
    let after = at.after in
    ap claim_in after.parts ∙ rw (prices-form.back after.prices (after.some, after.fit)) (cut-read after.prices at.more fault at.wrong)

length-read : (handles : ℕ) (all : List (List ℕ)) → LengthFault handles all → (claim_in all >>= for_handles handles) ≡ Err Length
length-read handles all at =
    let wrong : (length at.claim.prices == handles + 1) ≡ false = ne_eqb (length at.claim.prices) (handles + 1) at.other in
    ap (λ ls. claim_in ls >>= for_handles handles) at.parts
    ∙ rw (claim-from at.claim.prices at.claim.cut at.some at.fit at.cut_fits, wrong) refl

read-wrong : (handles : ℕ) (text : List ℕ) (fault : CertFault) → FirstCertFault handles text fault → read_of handles text ≡ Err fault
read-wrong handles text fault (inl wrong) = ap (λ said. said >>= for_handles handles) (syntax-read (lines text) fault wrong)
read-wrong handles text fault (inr wrong) = length-read handles (lines text) wrong.1 ∙ ap Err (sym wrong.0)

pub first_faults : (handles : ℕ) (text : List ℕ) (fault : CertFault) → (read_of handles text ≡ Err fault) ↔ FirstCertFault handles text fault
first_faults handles text fault = (λ fails. MatchResult-at_err (SpellsClaim handles text) (FirstCertFault handles text) fault fails (read-says handles text), read-wrong handles text fault)
