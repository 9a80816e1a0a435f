use Rattle.std.proofs.Common.{◌≡◌, ◌∙◌, ◌<◌, ◌≤◌, ℕ, zero, suc, List, [], ◌++◌, Option, ap, arith, inl, inr, refl, subst, sym, rules, length, Err}
use Rattle.std.proofs.lemmas.Bool.{cases_eq}
use Rattle.std.proofs.lemmas.List.{append-nil, append_assoc}
use Rattle.std.specs.Io.KnownBytes.{Appends}
use Rattle.jb_text.specs.Puts.{PutsPart}
use Rattle.jb_text.proofs.PartByPart.{part_after, part_first}
use Rattle.jb_commands.specs.Lines.{upto, shown_at}
use Rattle.std.proofs.KnownBytes.{Appends-trans}
use Rattle.jb_commands.proofs.CatBlocks.{upto-more}
use Rattle.jb_commands.proofs.streams.putting.put_shown.Goals as goal

-- the texts of some numbers begin with those of the first of them
upto-begins : (f : ℕ → List ℕ) (m n : ℕ) → m ≤ n → (rest : List ℕ) × (upto f n ≡ upto f m ++ rest)
upto-begins f m zero within =
    let none : m ≡ 0 = omega (arith, within) in
    ([], rw none refl)
upto-begins f m (suc n) within = elim (cases_eq m (suc n)) [
  | inl same ↦ ([], rw same (sym (append-nil (upto f (suc n)))))
  | inr other ↦
      let before = upto-begins f m n (omega (arith, within, other)) in
      (before.0 ++ f n, ap (λ text. text ++ f n) before.1 ∙ append_assoc (upto f m) before.0 (f n))
]

-- the text of one more number was written in part
upto-part : (f : ℕ → List ℕ) (a b c : Option (List ℕ)) (at n : ℕ) → at < n → Appends a b (upto f at) → PutsPart b c (f at) → PutsPart a c (upto f n)
upto-part f a b c at n within so_far part =
    let more = upto-begins f (suc at) n (omega (arith, within)) in
    subst (PutsPart a c) (sym more.1) (part_first a c (upto f (suc at)) more.0 (part_after a b c (upto f at) (f at) so_far part))

pub returns-in_err-put : goal.returns-in_err-put
returns-in_err-put g c =
    let name = c.args.name.now in
    let fails : c.from_residual.result ≡ Err c.in_err-put.field-0.0 = search rules in
    let text : c.as_slice.result.now ≡ shown_at name c.loop-at.at = search rules in
    rw fails (upto-part (shown_at name) _ _ _ c.loop-at.at (length name) c.loop-at-test.true c.loop-at.invariant (rw text at c.in_err-put.ensures.puts))

pub loop-at-preserved : goal.loop-at-preserved
loop-at-preserved g c =
    let name = c.args.name.now in
    let at = c.loop-at.at in
    let text : c.as_slice.result.now ≡ shown_at name at = search rules in
    rw (upto-more (shown_at name) at) (Appends-trans _ _ _ (upto (shown_at name) at) (shown_at name at) c.loop-at.invariant (rw text at c.in_ok-put.ensures.puts))
