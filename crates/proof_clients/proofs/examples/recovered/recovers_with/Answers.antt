use Rattle.std.proofs.Common.{◌≡◌, ◌+◌, if◌then◌else◌, List, inr, length, refl, sym, ap, subst, ◌∙◌, arith}
use Rattle.jb_disk.specs.Image.{block}
use Rattle.jb_super.specs.Features.{wide_in}
use Rattle.jb_super.specs.Superblock.{Superblock}
use Rattle.jb_scan.specs.declared.transaction.Transaction.{Transaction}
use Rattle.jb_recover.specs.Outcomes.{recovered}
use Rattle.jb_recover.specs.Window.{found_on}
use Rattle.jb_log.specs.Follows.{HoldsBy, next_on}
use Rattle.jb_deck.proofs.Lives.{one-super}
use Rattle.proof_clients.proofs.ExampleRecovered.{newer-there, start-zero, clean-follows, word-one}
use Rattle.proof_clients.proofs.examples.recovered.recovers_with.Goals as goal

pub returns-clause-meets : goal.returns-clause-meets
returns-clause-meets c size count sb image is old fits = record {
  follows = clean-follows size count sb image is;
  headers = record {
    sb = sb;
    same = refl;
    taken = is.taken;
    fields = fits;
    number = ap (λ b. if b then sb.sequence + 1 else sb.sequence + length (found_on (wide_in sb) sb image)) (start-zero size count sb image is);
    old = λ p from below. inr (old p from below);
  };
}

pub returns-clause-not_lost : goal.returns-clause-not_lost
returns-clause-not_lost c size count next own sb older newer s image has apart with =
    let same : with.follows.sb ≡ sb = one-super size count image with.follows.sb sb with.follows.taken has.taken in
    apart (sym (with.follows.each 5) ∙ ap (λ (b : Superblock). block (recovered size count image) (b.maxlen + 5)) same ∙ newer-there size count sb image older newer has)

pub returns-clause-not_older : goal.returns-clause-not_older
returns-clause-not_older c size count next own sb older newer s image has apart with =
    let same : with.follows.sb ≡ sb = one-super size count image with.follows.sb sb with.follows.taken has.taken in
    let there : block (recovered size count image) (with.follows.sb.maxlen + 5) ≡ older = subst (λ w. HoldsBy w (s 5) (block image (with.follows.sb.maxlen + 5)) (block (recovered size count image) (with.follows.sb.maxlen + 5))) (word-one older 0) (with.follows.each 5) in
    apart (sym there ∙ ap (λ (b : Superblock). block (recovered size count image) (b.maxlen + 5)) same ∙ newer-there size count sb image older newer has)

pub returns-clause-not_number : goal.returns-clause-not_number
returns-clause-not_number c size count own sb older newer s hs image has dirty with =
    let same : with.headers.sb ≡ sb = one-super size count image with.headers.sb sb with.headers.taken has.taken in
    let number : next_on sb image ≡ sb.sequence + 1 = ap (λ (b : Superblock). next_on b image) (sym same) ∙ with.headers.number in
    let two : next_on sb image ≡ sb.sequence + 2 =
    ap (λ b. if b then sb.sequence + 1 else sb.sequence + length (found_on (wide_in sb) sb image)) dirty
    ∙ ap (λ (ts : List Transaction). sb.sequence + length ts) has.found in
    omega (arith, number, two)

pub returns-clause-not_journal : goal.returns-clause-not_journal
returns-clause-not_journal c size count next own sb s hs image taken apart with =
    let same : with.follows.sb ≡ sb = one-super size count image with.follows.sb sb with.follows.taken taken in
    apart (sym (ap (λ (b : Superblock). b.maxlen) with.follows.same) ∙ ap (λ (b : Superblock). b.maxlen) same)
