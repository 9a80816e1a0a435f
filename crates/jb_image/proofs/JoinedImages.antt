-- Images one after the other, and what a call changes of both.
use Rattle.std.proofs.Common.{◌≡◌, ◌<◌, ◌≤◌, ◌⊎◌, ℕ, ◌+◌, ◌-◌, ◌*◌, List, [], ◌++◌, length, drop, refl, sym, ◌∙◌, ap, subst, inl, inr, ⊎_elim, arith, length-append, length-drop}
use Rattle.std.proofs.lemmas.Bool.{cases_lt}
use Rattle.std.proofs.lemmas.List.{get_or_append_left, get_or-append_right, take-append-le, drop-append-le}
use Rattle.std.proofs.Math.Seq.{drop-append-add}
use Rattle.std.proofs.Math.Nat.{mul-le-mul_left}
use Rattle.jb_disk.specs.Image.{Image, block, sector, Torn}
use Rattle.jb_disk.specs.Runs.{part, IsOutside, ReadsRun, WroteRun, TornRun}

-- a relation of the blocks at one place holds of joined images where it holds of the two that have the place
by_place : (P : List ℕ → List ℕ → Type 0) (x x' y y' : Image) (p : ℕ) → length x' ≡ length x
    → (p < length x → P (block x p) (block x' p)) → (length x ≤ p → P (block y (p - length x)) (block y' (p - length x))) → P (block (x ++ y) p) (block (x' ++ y') p)
by_place P x x' y y' p same front back =
    ⊎_elim
    (λ below. rw (get_or_append_left x y [] p below, get_or_append_left x' y' [] p (omega (arith, below, same))) (front below))
    (λ past. rw (get_or-append_right x y (length x) p [] refl past, get_or-append_right x' y' (length x) p [] same past) (back past))
    (cases_lt p (length x))

-- ---- what a call changes

-- n blocks from a place on are changed as R says of each, and no other block is
pub record Changes (R : ℕ → List ℕ → List ℕ → Type 0) (n place : ℕ) (old new : Image) : Type 0 where
  pub count : length new ≡ length old
  pub inside : (k : ℕ) → k < n → R k (block old (place + k)) (block new (place + k))
  pub elsewhere : (p : ℕ) → IsOutside n place p → block new p ≡ block old p

-- blocks of the first image
pub changes-front : (R : ℕ → List ℕ → List ℕ → Type 0) (n place : ℕ) (x x' y : Image) → place + n ≤ length x → Changes R n place x x' → Changes R n place (x ++ y) (x' ++ y)
changes-front R n place x x' y within changes = record {
  count = omega (arith, length-append x y, length-append x' y, changes.count);
  inside = λ k below. by_place (R k) x x' y y (place + k) changes.count
      (λ _. changes.inside k below) (λ past. absurd (let h : ⊥ = omega (arith, within, below, past) in h));
  elsewhere = λ p outside. by_place (λ a b. b ≡ a) x x' y y p changes.count (λ _. changes.elsewhere p outside) (λ _. refl);
}

-- blocks of the second
pub changes-back : (R : ℕ → List ℕ → List ℕ → Type 0) (n q place : ℕ) (x y y' : Image) → place ≡ length x + q → Changes R n q y y' → Changes R n place (x ++ y) (x ++ y')
changes-back R n q place x y y' is changes = record {
  count = omega (arith, length-append x y, length-append x y', changes.count);
  inside = λ k below. by_place (R k) x x y y' (place + k) refl
      (λ less. absurd (let h : ⊥ = omega (arith, is, less) in h))
      (λ _. subst (λ i. R k (block y i) (block y' i)) (let h : q + k ≡ place + k - length x = omega (arith, is) in h) (changes.inside k below));
  elsewhere = λ p outside. by_place (λ a b. b ≡ a) x x y y' p refl (λ _. refl)
      (λ past. changes.elsewhere (p - length x) (λ k below same. outside k below (omega (arith, is, past, same))));
}

-- n blocks, and then the m behind them
pub changes-then : (R : ℕ → List ℕ → List ℕ → Type 0) (n m place : ℕ) (c d e : Image) → Changes R n place c d → Changes (λ k. R (n + k)) m (place + n) d e → Changes R (n + m) place c e
changes-then R n m place c d e first second = record {
  count = second.count ∙ first.count;
  inside = λ k below. ⊎_elim
      (λ less. subst (R k (block c (place + k))) (sym (second.elsewhere (place + k) (λ j _ same. omega (arith, less, same)))) (first.inside k less))
      (λ past.
      let number : n + (k - n) ≡ k = omega (arith, past) in
      let at : place + n + (k - n) ≡ place + k = omega (arith, past) in
      let as_before : block d (place + k) ≡ block c (place + k) = first.elsewhere (place + k) (λ j less same. omega (arith, less, past, same)) in
      rw (number, at, as_before) at (second.inside (k - n) (omega (arith, past, below))))
      (cases_lt k n);
  elsewhere = λ p outside.
      second.elsewhere p (λ k below same. outside (n + k) (omega (arith, below)) (omega (arith, same)))
      ∙ first.elsewhere p (λ k below. outside k (omega (arith, below)));
}

-- what is said of each of the blocks may be said otherwise
changes-said : {R S : ℕ → List ℕ → List ℕ → Type 0} (n place : ℕ) (c d : Image) → ((k : ℕ) (a b : List ℕ) → k < n → R k a b → S k a b) → Changes R n place c d → Changes S n place c d
changes-said n place c d said changes = record { count = changes.count; inside = λ k below. said k _ _ below (changes.inside k below); elsewhere = changes.elsewhere }

-- ---- words for what is changed

-- a word that says of n blocks how they are changed, and of no other block
pub record Word (n : ℕ) : Type 1 where
  pub each : ℕ → List ℕ → List ℕ → Type 0
  pub holds : ℕ → Image → Image → Type 0
  pub to : (place : ℕ) (c d : Image) → holds place c d → Changes each n place c d
  pub from : (place : ℕ) (c d : Image) → Changes each n place c d → holds place c d

module _ (n : ℕ) (word : Word n) where
  pub in-front : (place : ℕ) (x x' y : Image) → place + n ≤ length x → word.holds place x x' → word.holds place (x ++ y) (x' ++ y)
  in-front place x x' y within holds = word.from place (x ++ y) (x' ++ y) (changes-front word.each n place x x' y within (word.to place x x' holds))

  pub in-back : (q place : ℕ) (x y y' : Image) → place ≡ length x + q → word.holds q y y' → word.holds place (x ++ y) (x ++ y')
  in-back q place x y y' is holds = word.from place (x ++ y) (x ++ y') (changes-back word.each n q place x y y' is (word.to q y y' holds))

-- each sector of a block is the old one or one of these bytes
abbrev pub TornBlock : List ℕ → List ℕ → List ℕ → Type 0
TornBlock bytes a b = (length b ≡ length a) × ((j : ℕ) → (sector j b ≡ sector j a) ⊎ (sector j b ≡ sector j bytes))

-- a torn write
abbrev pub torn_block : List ℕ → Word 1
torn_block bytes = record {
  each = λ _. TornBlock bytes;
  holds = λ place. Torn place bytes;
  to = λ place c d torn. record {
    count = torn.count;
    inside = λ k below. subst (λ p. TornBlock bytes (block c p) (block d p)) (let h : place ≡ place + k = omega (arith, below) in h) (torn.size, torn.sectors);
    elsewhere = λ p outside. torn.elsewhere p (λ same. outside 0 (omega arith) (omega (arith, same)));
  };
  from = λ place c d changes.
      let here : TornBlock bytes (block c place) (block d place)
      = subst (λ p. TornBlock bytes (block c p) (block d p)) (let h : place + 0 ≡ place = omega arith in h) (changes.inside 0 (omega arith)) in
      record {
        count = changes.count;
        elsewhere = λ p other. changes.elsewhere p (λ k below same. other (omega (arith, below, same)));
        size = here.0;
        sectors = here.1;
      };
}

-- a place is in a run, or outside of it
pub in_run : (n place p : ℕ) → ((k : ℕ) × (k < n) × (p ≡ place + k)) ⊎ IsOutside n place p
in_run n place p =
    ⊎_elim (λ below. inr (λ k less same. omega (arith, below, same)))
    (λ past. ⊎_elim (λ within. inl (p - place, omega (arith, within, past), omega (arith, past))) (λ behind. inr (λ k less same. omega (arith, behind, less, same))) (cases_lt p (place + n)))
    (cases_lt p place)

-- a torn run: each block of it is torn, by the one of the buffer that is for it
abbrev pub torn_blocks : ℕ → (n : ℕ) → List ℕ → Word n
torn_blocks size n bytes = record {
  each = λ k. TornBlock (part size k bytes);
  holds = λ place. TornRun size n place bytes;
  to = λ place c d torn. record {
    count = torn.count;
    inside = λ k below. (torn.sizes (place + k), λ j. torn.sectors k j below);
    elsewhere = torn.elsewhere;
  };
  from = λ place c d changes. record {
    count = changes.count;
    sizes = λ p. ⊎_elim
        (λ here. subst (λ q. length (block d q) ≡ length (block c q)) (sym here.2) (changes.inside here.0 here.1).0)
        (λ outside. ap length (changes.elsewhere p outside))
        (in_run n place p);
    sectors = λ k j below. (changes.inside k below).1 j;
    elsewhere = changes.elsewhere;
  };
}

-- a run that is written
abbrev pub written_blocks : ℕ → (n : ℕ) → List ℕ → Word n
written_blocks size n bytes = record {
  each = λ k _ b. b ≡ part size k bytes;
  holds = λ place. WroteRun size n place bytes;
  to = λ place c d wrote. record { count = wrote.count; inside = wrote.inside; elsewhere = wrote.elsewhere };
  from = λ place c d changes. record { count = changes.count; inside = changes.inside; elsewhere = changes.elsewhere };
}

-- ---- the blocks of a buffer

-- of its first part
pub part-front : (size n k : ℕ) (a b : List ℕ) → length a ≡ size * n → k < n → part size k (a ++ b) ≡ part size k a
part-front size n k a b is below =
    let within : size * k + size ≤ length a = omega (arith, is, mul-le-mul_left {m = k + 1} {n = n} size (omega (arith, below))) in
    rw (drop-append-le (size * k) a b (omega (arith, within))) (take-append-le size (drop (size * k) a) b (omega (arith, length-drop (size * k) a, within)))

-- of the rest
pub part-back : (size n k : ℕ) (a b : List ℕ) → length a ≡ size * n → part size (n + k) (a ++ b) ≡ part size k b
part-back size n k a b is =
    let sum : size * (n + k) ≡ length a + size * k = omega (arith, is) in
    rw (sum, drop-append-add a b (size * k)) refl

-- ---- a run, and then the one behind it

-- so many blocks, in two parts, and their bytes
pub record Halves (size n m blocks : ℕ) (first rest bytes : List ℕ) : Type 0 where
  pub long : length first ≡ size * n
  pub all : n + m ≡ blocks
  pub whole : first ++ rest ≡ bytes

module _ {size n m blocks : ℕ} {first rest bytes : List ℕ} (halves : Halves size n m blocks first rest bytes) (place : ℕ) where
  runs-then : (R : List ℕ → List ℕ → List ℕ → Type 0) (c d e : Image) → Changes (λ k. R (part size k first)) n place c d → Changes (λ k. R (part size k rest)) m (place + n) d e
      → Changes (λ k. R (part size k bytes)) blocks place c e
  runs-then R c d e begun ended =
      rw (← halves.whole, ← halves.all)
      (changes-then (λ k. R (part size k (first ++ rest))) n m place c d e
      (changes-said n place c d (λ k a b below. subst (λ bs. R bs a b) (sym (part-front size n k first rest halves.long below))) begun)
      (changes-said m (place + n) d e (λ k a b below. subst (λ bs. R bs a b) (sym (part-back size n k first rest halves.long))) ended))

  pub torn_run-then : (c d e : Image) → TornRun size n place first c d → TornRun size m (place + n) rest d e → TornRun size blocks place bytes c e
  torn_run-then c d e begun ended =
      (torn_blocks size blocks bytes).from place c e
      (runs-then TornBlock c d e ((torn_blocks size n first).to place c d begun) ((torn_blocks size m rest).to (place + n) d e ended))

  -- the first run ends with the first image
  module _ (x x' y y' : Image) (end : place + n ≡ length x) where
    pub torn-both : TornRun size n place first x x' → TornRun size m 0 rest y y' → TornRun size blocks place bytes (x ++ y) (x' ++ y')
    torn-both begun ended =
        torn_run-then (x ++ y) (x' ++ y) (x' ++ y')
        (in-front n (torn_blocks size n first) place x x' y (omega (arith, end)) begun)
        (in-back m (torn_blocks size m rest) 0 (place + n) x' y y' (omega (arith, end, begun.count)) ended)

    pub wrote-both : WroteRun size n place first x x' → WroteRun size m 0 rest y y' → WroteRun size blocks place bytes (x ++ y) (x' ++ y')
    wrote-both begun ended =
        let front = written_blocks size n first in
        let back = written_blocks size m rest in
        (written_blocks size blocks bytes).from place (x ++ y) (x' ++ y')
        (runs-then (λ bytes _ b. b ≡ bytes) (x ++ y) (x' ++ y) (x' ++ y')
        (front.to place (x ++ y) (x' ++ y) (in-front n front place x x' y (omega (arith, end)) begun))
        (back.to (place + n) (x' ++ y) (x' ++ y') (in-back m back 0 (place + n) x' y y' (omega (arith, end, begun.count)) ended)))

  pub reads-both : (x y : Image) → place + n ≡ length x → ReadsRun size n place x first → ReadsRun size m 0 y rest → ReadsRun size blocks place (x ++ y) bytes
  reads-both x y end front back k below =
      ap (part size k) (sym halves.whole)
      ∙ ⊎_elim
      (λ less. part-front size n k first rest halves.long less ∙ front k less ∙ sym (get_or_append_left x y [] (place + k) (omega (arith, end, less))))
      (λ past.
      let number : k ≡ n + (k - n) = omega (arith, past) in
      let at : 0 + (k - n) ≡ place + k - length x = omega (arith, end, past) in
      ap (λ j. part size j (first ++ rest)) number ∙ part-back size n (k - n) first rest halves.long ∙ back (k - n) (omega (arith, past, below, halves.all))
      ∙ ap (block y) at ∙ sym (get_or-append_right x y (length x) (place + k) [] refl (omega (arith, end, past))))
      (cases_lt k n)
