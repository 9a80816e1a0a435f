-- Blocks by their sectors.
use Rattle.std.proofs.Common.{◌≡◌, ◌<◌, ◌≤◌, ℕ, zero, suc, ◌+◌, ◌-◌, ◌*◌, List, ◌++◌, length, take, drop, refl, sym, ◌∙◌, ap, arith, length-drop}
use Rattle.std.proofs.lemmas.List.{nil_from_length, drop-drop, take-append-drop, length-take-le}
use Rattle.std.proofs.lemmas.Slice.{drop-put_mid}
use borrow.Rule.Slice.PartMut.{put_mid}
use Rattle.jb_block.proofs.Overwrites.{length-overwritten}
use Rattle.jb_disk.specs.Image.{sector}
use Rattle.jb_disk.specs.CrashWrites.{put_sector}
use Rattle.jb_disk.proofs.RunReads.{part-before, part-put}

-- what a copy over the part of a slice makes of it
pub put_mid-sector : (k m : ℕ) (to from ys : List ℕ) → m ≡ 512 → ys ≡ take m (drop (512 * k) from) → put_mid (512 * k) m to ys ≡ put_sector k from to
put_mid-sector k m to from ys size is =
    rw (is, size) (ap (λ rest. take (512 * k) to ++ (sector k from ++ rest)) (drop-drop 512 (512 * k) to))

module _ (k : ℕ) (from to : List ℕ) (same : length from ≡ length to) (within : 512 * k + 512 ≤ length to) where
  as_copy : put_sector k from to ≡ put_mid (512 * k) 512 to (sector k from)
  as_copy = sym (put_mid-sector k 512 to from (sector k from) refl refl)

  length-sector : length (sector k from) ≡ 512
  length-sector = length-take-le 512 (drop (512 * k) from) (omega (arith, length-drop (512 * k) from, same, within))

  pub length-put_sector : length (put_sector k from to) ≡ length to
  length-put_sector =
      ap (λ n. length (take (512 * k) to ++ (sector k from ++ drop (512 * k + n) to))) (sym length-sector)
      ∙ length-overwritten to (sector k from) (512 * k) (omega (arith, length-sector, within))

  -- the sector is the other's
  pub put_sector-same : sector k (put_sector k from to) ≡ sector k from
  put_sector-same = ap (sector k) as_copy ∙ part-put 512 k 512 to (sector k from) refl length-sector within

  -- the other sectors are as they were
  pub put_sector-below : (j : ℕ) → j < k → sector j (put_sector k from to) ≡ sector j to
  put_sector-below j below = ap (sector j) as_copy ∙ part-before 512 j k 512 to (sector k from) below (omega (arith, within))

  pub put_sector-above : (j : ℕ) → k < j → sector j (put_sector k from to) ≡ sector j to
  put_sector-above j above =
      ap (sector j) as_copy ∙ ap (take 512) (drop-put_mid (512 * k) 512 to (sector k from) (512 * j) (omega (arith, above)) (omega (arith, within)) length-sector)

-- the next sector is one of the rest
pub sector-suc : (k : ℕ) (bytes : List ℕ) → sector (suc k) bytes ≡ sector k (drop 512 bytes)
sector-suc k bytes =
    let sum : 512 * suc k ≡ 512 + 512 * k = omega arith in
    ap (take 512) (ap (λ n. drop n bytes) sum ∙ sym (drop-drop (512 * k) 512 bytes))

-- a block of no more than n sectors is given by them
pub same_sectors : (n : ℕ) (a b : List ℕ) → length a ≤ 512 * n → length a ≡ length b → ((k : ℕ) → k < n → sector k a ≡ sector k b) → a ≡ b
same_sectors zero a b few same each = nil_from_length a (omega (arith, few)) ∙ sym (nil_from_length b (omega (arith, few, same)))
same_sectors (suc n) a b few same each =
    let front : take 512 a ≡ take 512 b = each 0 (omega arith) in
    let back : drop 512 a ≡ drop 512 b = same_sectors n (drop 512 a) (drop 512 b) (omega (arith, few, length-drop 512 a)) (length-drop 512 a ∙ ap (λ m. m - 512) same ∙ sym (length-drop 512 b))
    (λ k below. sym (sector-suc k a) ∙ each (suc k) (omega (arith, below)) ∙ sector-suc k b) in
    sym (take-append-drop 512 a) ∙ ap (λ x. x ++ drop 512 a) front ∙ ap (λ y. take 512 b ++ y) back ∙ take-append-drop 512 b
