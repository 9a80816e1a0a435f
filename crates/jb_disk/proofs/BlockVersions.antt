-- How a block takes its versions, sector by sector.
use Rattle.std.proofs.Common.{◌≡◌, ◌<◌, ◌≤◌, ℕ, zero, suc, refl, subst, ◌+◌, ◌-◌, ◌*◌, ◌%◌, List, [], ◌∷◌, length, get_or, sym, ◌∙◌, ap, below_more, arith, Bor, All, Bool, true, false, cond, ◌++◌}
use Rattle.std.proofs.lemmas.List.Elements.{All-cons, All-push}
use Rattle.std.proofs.lemmas.Nat.{mod_below}
use Rattle.std.proofs.lemmas.List.{length-map, get_or-map}
use Rattle.jb_disk.specs.Image.{sector}
use Rattle.jb_disk.specs.CrashWrites.{put_sector, bytes_of_writes}
use Rattle.jb_disk.specs.Versions.{version}
use Rattle.jb_disk.proofs.Sectors.{length-put_sector, put_sector-same, put_sector-below, put_sector-above}

-- each of the first n sectors has what is wanted of it, and the others are as they were
pub record IsPicked (n : ℕ) (P : ℕ → List ℕ → Type 0) (old now : List ℕ) : Type 0 where
  pub chosen : (k : ℕ) → k < n → P k (sector k now)
  pub rest : (k : ℕ) → n ≤ k → sector k now ≡ sector k old

module _ {n : ℕ} {P : ℕ → List ℕ → Type 0} {old now : List ℕ} (so : IsPicked n P old now) where
  -- a sector that keeps what it had
  pub picked-keep : P n (sector n old) → IsPicked (n + 1) P old now
  picked-keep has = record {
    chosen = below_more (λ k. P k (sector k now)) n so.chosen (subst (P n) (sym (so.rest n (omega arith))) has);
    rest = λ k above. so.rest k (omega (arith, above));
  }

  -- a sector that takes another block's
  pub picked-put : (y : List ℕ) → length y ≡ length now → 512 * n + 512 ≤ length now → P n (sector n y) → IsPicked (n + 1) P old (put_sector n y now)
  picked-put y same within has = record {
    chosen = below_more (λ k. P k (sector k (put_sector n y now))) n
        (λ k less. subst (P k) (sym (put_sector-below n y now same within k less)) (so.chosen k less)) (subst (P n) (sym (put_sector-same n y now same within)) has);
    rest = λ k above. put_sector-above n y now same within k (omega (arith, above)) ∙ so.rest k (omega (arith, above));
  }

-- where some block has what is wanted of each sector, one has it of all
pub picked : (sectors n : ℕ) (P : ℕ → List ℕ → Type 0) (old : List ℕ) → n ≤ sectors → length old ≡ 512 * sectors
    → ((k : ℕ) → k < n → (y : List ℕ) × (length y ≡ 512 * sectors) × P k (sector k y)) → (x : List ℕ) × (length x ≡ 512 * sectors) × IsPicked n P old x
picked sectors zero P old few size from = (old, size, record { chosen = λ k below. absurd (let h : ⊥ = omega (arith, below) in h); rest = λ k above. refl })
picked sectors (suc n) P old few size from =
    let before : (x : List ℕ) × (length x ≡ 512 * sectors) × IsPicked n P old x = picked sectors n P old (omega (arith, few)) size (λ k below. from k (omega (arith, below))) in
    let one : (y : List ℕ) × (length y ≡ 512 * sectors) × P n (sector n y) = from n (omega arith) in
    let same : length one.0 ≡ length before.0 = one.1 ∙ sym before.1 in
    let within : 512 * n + 512 ≤ length before.0 = omega (arith, before.1, few) in (
      put_sector n one.0 before.0,
      length-put_sector n one.0 before.0 same within ∙ before.1,
      subst (λ m. IsPicked m P old (put_sector n one.0 before.0)) (let h : n + 1 ≡ suc n = omega arith in h) (picked-put before.2 one.0 same within one.2),
    )

pub version-later : (old : List ℕ) (writes : List (Bor (List ℕ))) (number : ℕ) (d : Bor (List ℕ)) → (number % (length writes + 1) ≡ 0 → ⊥)
    → version (old ∷ bytes_of_writes writes) number ≡ (get_or writes (number % (length writes + 1) - 1) d).now
version-later old writes number d later =
    let size : suc (length (bytes_of_writes writes)) ≡ length writes + 1 = omega (arith, length-map writes (λ v. v.now)) in
    let below : number % (length writes + 1) < length writes + 1 = mod_below number (length writes + 1) (omega arith) in
    let split : number % (length writes + 1) ≡ suc (number % (length writes + 1) - 1) = omega (arith, later) in
    let inside : number % (length writes + 1) - 1 < length writes = omega (arith, below, later) in
    ap (λ m. get_or (old ∷ bytes_of_writes writes) (number % m) []) size
    ∙ ap (λ n. get_or (old ∷ bytes_of_writes writes) n []) split
    ∙ get_or-map (λ v. v.now) writes (number % (length writes + 1) - 1) d [] inside

-- a version is as long as all contents
pub version-size : (size : ℕ) (old : List ℕ) (contents : List (List ℕ)) (number : ℕ) → length old ≡ size → All (λ b. length b ≡ size) contents → length (version (old ∷ contents) number) ≡ size
version-size size old contents number first later =
    All-cons (λ b. length b ≡ size) old contents first later (number % length (old ∷ contents)) [] (mod_below number (length (old ∷ contents)) (omega arith))

pub all_more : (size : ℕ) (more : Bool) (contents : List (List ℕ)) (bytes : List ℕ) → All (λ b. length b ≡ size) contents → length bytes ≡ size → All (λ b. length b ≡ size) (cond more (contents ++ bytes ∷ []) contents)
all_more size false contents bytes all whole = all
all_more size true contents bytes all whole = All-push (λ b. length b ≡ size) contents bytes all whole
