use Rattle.std.proofs.Common.{◌≡◌, ℕ, ◌+◌, ◌==◌, ◌<◌, ◌^◌, Bool, true, false, refl, sym, ap, subst, ◌∙◌, arith}
use Rattle.jb_disk.specs.Image.{block}
use Rattle.jb_super.specs.Superblock.{Superblock}
use Rattle.jb_format.specs.Front.{super_on}
use Rattle.jb_recover.specs.Outcomes.{recovered}
use Rattle.jb_recover.proofs.RecoveredImage.{own-clean_refusal}
use Rattle.jb_log.specs.Follows.{StandsBy}
use Rattle.jb_deck.specs.Calls.{RecoversAt}
use Rattle.jb_deck.proofs.Lives.{one-super}
use Rattle.proof_clients.proofs.ExampleRecovered.{newer-there, start-zero, still, word-one, word-two}
use Rattle.proof_clients.proofs.examples.recovered.is_recovered_to.Goals as goal

pub returns-clause-meets : goal.returns-clause-meets
returns-clause-meets c size count sb image is = record {
  sb = sb;
  same = refl;
  taken = is.taken;
  not_refused = own-clean_refusal size count sb image is.taken (start-zero size count sb image is);
  after = record {
    sb = sb;
    same = refl;
    taken = ap (super_on size count) (still size count sb image is) ∙ is.taken;
    clean = is.clean;
    number = subst (λ b. RecoversAt b (sb.sequence + 1) sb.sequence) (sym (start-zero size count sb image is)) refl;
  };
  each = λ home. ap (λ d. block d (sb.maxlen + home)) (still size count sb image is);
}

pub returns-clause-not_lost : goal.returns-clause-not_lost
returns-clause-not_lost c size count next own sb older newer s image has apart to =
    let same : to.sb ≡ sb = one-super size count image to.sb sb to.taken has.taken in
    apart (sym (to.each 5) ∙ ap (λ (b : Superblock). block (recovered size count image) (b.maxlen + 5)) same ∙ newer-there size count sb image older newer has)

pub returns-clause-not_older : goal.returns-clause-not_older
returns-clause-not_older c size count next own sb older newer s image has apart to =
    let same : to.sb ≡ sb = one-super size count image to.sb sb to.taken has.taken in
    let there : block (recovered size count image) (to.sb.maxlen + 5) ≡ older = subst (λ w. StandsBy w (s 5) (block (recovered size count image) (to.sb.maxlen + 5))) (word-one older 0) (to.each 5) in
    apart (sym there ∙ ap (λ (b : Superblock). block (recovered size count image) (b.maxlen + 5)) same ∙ newer-there size count sb image older newer has)

pub returns-clause-not_order : goal.returns-clause-not_order
returns-clause-not_order c size count next own sb older newer s image has apart to =
    let same : to.sb ≡ sb = one-super size count image to.sb sb to.taken has.taken in
    let there : block (recovered size count image) (to.sb.maxlen + 5) ≡ older = subst (λ w. StandsBy w (s 5) (block (recovered size count image) (to.sb.maxlen + 5))) (word-two newer older) (to.each 5) in
    apart (sym there ∙ ap (λ (b : Superblock). block (recovered size count image) (b.maxlen + 5)) same ∙ newer-there size count sb image older newer has)

-- a recovery leaves one number, whatever it was before
one-number : (b : Bool) (next sequence : ℕ) → next + 1 < 2 ^ 32 → RecoversAt b next sequence → RecoversAt b (next + 1) sequence → ⊥
one-number true next sequence small one two = omega (arith, one, two)
one-number false next sequence small one two = omega (arith, small, one, two)

pub returns-clause-not_number : goal.returns-clause-not_number
returns-clause-not_number c size count next own s t hs more image small one two =
    let before : one.sb ≡ two.sb = one-super size count image one.sb two.sb one.taken two.taken in
    let after : one.after.sb ≡ two.after.sb = one-super size count (recovered size count image) one.after.sb two.after.sb one.after.taken two.after.taken in
    let late : RecoversAt (one.sb.start == 0) (next + 1) one.after.sb.sequence =
    subst (λ (b : Superblock). RecoversAt (b.start == 0) (next + 1) one.after.sb.sequence) (sym before)
    (subst (λ (b : Superblock). RecoversAt (two.sb.start == 0) (next + 1) b.sequence) (sym after) two.after.number) in
    one-number (one.sb.start == 0) next one.after.sb.sequence small one.after.number late
