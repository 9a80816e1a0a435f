-- What is printed is read back.
use Rattle.std.proofs.Common.{◌≡◌, ◌∙◌, ap, ℕ, ◌+◌, ◌∷◌, ◌++◌, length, refl, inl, map, append_assoc, Ok, codes}
use Rattle.jb_text.specs.Lines.{ended}
use Rattle.jb_text.specs.Parts.{spaced}
use Rattle.jb_price.specs.declared.certificate.Cert.{Cert}
use Rattle.jb_price.specs.declared.certificate.CertAnswer.{CertAnswer}
use Rattle.jb_price.specs.declared.certificate.CertAnswer.TheVariants.{Cut, NoCut}
use Rattle.jb_price.specs.Certificate.{price_text, answer_lines, cert_text}
use Rattle.jb_price.specs.Claims.{claim_of, cut_of, read_of}
use Rattle.jb_price.specs.Grammar.{cut_lines, CutFits}
use Rattle.jb_price.specs.ReadBack.{HasBound, AnswerFits, HasText}
use Rattle.jb_price.proofs.SpelledCert.{read-from}

-- the text of an answer is its lines, and its numbers fit
answer-spells : (answer : CertAnswer) → HasBound answer → AnswerFits answer → (answer_lines answer ≡ ended (cut_lines (cut_of answer))) × CutFits (cut_of answer)
answer-spells NoCut some fits = (refl, tt)
answer-spells (Cut bounds total) some fits = (refl, (some, fits.0, fits.1))

-- a text that is printed spells the claim
pub read_back : (cert : Cert) (handles : ℕ) → HasText cert → length cert.prices.items ≡ handles + 1 → read_of handles (cert_text cert) ≡ Ok (claim_of cert)
read_back cert handles has one_more =
    let row = spaced (map price_text cert.prices.items) in
    let answer = answer-spells cert.answer has.a_bound has.answer_fits in
    read-from handles (cert_text cert) (claim_of cert) (record {
      spelled = inl (ap (λ bs. codes "prices" ++ bs) (append_assoc row (codes "\n") (answer_lines cert.answer) ∙ ap (λ bs. row ++ 10 ∷ bs) answer.0));
      one_more = one_more;
      prices_fit = has.prices_fit;
      cut_fits = answer.1;
    })
