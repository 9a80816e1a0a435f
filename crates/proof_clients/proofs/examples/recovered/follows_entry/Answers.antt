use Rattle.std.proofs.Common.{◌≡◌, ◌+◌, [], inl, ⊎_elim, refl, sym, ap, ◌∙◌, arith}
use Rattle.jb_disk.specs.Image.{block}
use Rattle.jb_super.specs.Superblock.{Superblock}
use Rattle.jb_format.specs.Ready.{revoking}
use Rattle.jb_recover.specs.Outcomes.{recovered}
use Rattle.jb_recover.proofs.RecoveredImage.{own-clean_refusal}
use Rattle.jb_log.specs.Follows.{Follows}
use Rattle.jb_deck.specs.Open.{home_by, recovered_home}
use Rattle.jb_deck.proofs.Lives.{one-super}
use Rattle.jb_deck.proofs.OpenedJournal.{revoking-same}
use Rattle.proof_clients.proofs.ExampleRecovered.{start-zero, still}
use Rattle.proof_clients.proofs.examples.recovered.follows_entry.Goals as goal

pub returns-clause-meets : goal.returns-clause-meets
returns-clause-meets c size count sb base is left = record {
  sb = sb;
  was = is.taken;
  clean = is.clean;
  left = left;
  taken = inl is.taken;
  partly = record {
    same_count = refl;
    front = record { size = refl; sectors = λ k. inl refl };
    reads = inl refl;
    logged = λ p from below. record { size = refl; sectors = λ k. inl refl };
    elsewhere = λ p from out. refl;
  };
  follows = inl (record {
    sb = sb;
    same = refl;
    taken = is.taken;
    not_refused = own-clean_refusal size count sb base is.taken (start-zero size count sb base is);
    each = λ home. sym (ap (λ x. home_by x (recovered size count base) home) is.taken);
  });
  frame = record { rest = refl; before = λ p from below. refl; after = λ p from. refl };
}

pub returns-clause-not_log : goal.returns-clause-not_log
returns-clause-not_log c size count sb base image taken start left =
    let same : left.sb ≡ sb = one-super size count base left.sb sb left.was taken in
    omega (arith, left.clean, ap (λ (b : Superblock). b.start) same, start)

pub returns-clause-not_spent : goal.returns-clause-not_spent
returns-clause-not_spent c size count sb base image taken spent left =
    let same : left.sb ≡ sb = one-super size count base left.sb sb left.was taken in
    omega (arith, left.left, ap (λ (b : Superblock). b.sequence) same, spent)

pub returns-clause-not_before : goal.returns-clause-not_before
returns-clause-not_before c size count p sb base image taken some below apart left =
    let same : left.sb ≡ sb = one-super size count base left.sb sb left.was taken in
    apart (left.frame.before p some (omega (arith, ap (λ (b : Superblock). b.first) same, below)))

pub returns-clause-not_length : goal.returns-clause-not_length
returns-clause-not_length c size count p sb base image taken from below apart left =
    let same : left.sb ≡ sb = one-super size count base left.sb sb left.was taken in
    apart (left.partly.logged p (omega (arith, ap (λ (b : Superblock). b.first) same, from)) (omega (arith, ap (λ (b : Superblock). b.maxlen) same, below))).size

pub returns-clause-not_home : goal.returns-clause-not_home
returns-clause-not_home c size count sb base image is apart left =
    let same : left.sb ≡ sb = one-super size count base left.sb sb left.was is.taken in
    let was : recovered_home size count base 5 ≡ block base (sb.maxlen + 5) =
    ap (λ x. home_by x (recovered size count base) 5) is.taken ∙ ap (λ d. block d (sb.maxlen + 5)) (still size count sb base is) in
    let at : (own : Superblock) → own.maxlen ≡ sb.maxlen → Follows own size count (recovered_home size count base) [] image → ⊥ = λ own maxlen follows.
    let here : follows.sb.maxlen ≡ sb.maxlen = ap (λ (b : Superblock). b.maxlen) follows.same ∙ maxlen in
    apart (ap (λ n. block (recovered size count image) (n + 5)) (sym here) ∙ follows.each 5 ∙ was) in
    let maxlen : left.sb.maxlen ≡ sb.maxlen = ap (λ (b : Superblock). b.maxlen) same in
    ⊎_elim (λ plain. at left.sb maxlen plain) (λ (with : Follows (revoking left.sb) size count (recovered_home size count base) [] image). at (revoking left.sb) ((revoking-same left.sb).maxlen ∙ maxlen) with) left.follows
