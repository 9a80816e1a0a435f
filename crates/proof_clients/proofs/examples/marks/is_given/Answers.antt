use Rattle.std.proofs.Common.{◌≡◌, [], ◌∷◌, refl, ap, ◌∙◌, arith}
use Rattle.std.proofs.lemmas.Option.{same_Some}
use Rattle.jb_handle.specs.declared.stopped.Stopped.{Stopped}
use Rattle.proof_clients.specs.Examples.{wrote}
use Rattle.proof_clients.proofs.ExampleMarks.{second-third}
use Rattle.proof_clients.proofs.examples.marks.is_given.Goals as goal

pub returns-clause-meets : goal.returns-clause-meets
returns-clause-meets c d = record {
  handle = wrote [] 1 (2 ∷ []);
  stands = refl;
  same_ticket = refl;
  same_words = refl;
  settled = omega arith;
}

pub returns-clause-not_other_words : goal.returns-clause-not_other_words
returns-clause-not_other_words c d given =
    let same : wrote [] 1 (2 ∷ []) ≡ given.handle = same_Some (wrote [] 1 (2 ∷ [])) given.handle given.stands in
    second-third (ap (λ (h : Stopped). h.words) same ∙ given.same_words)
