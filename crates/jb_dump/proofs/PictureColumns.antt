-- Columns that are put one after the other, and transactions that are counted so.
use Rattle.std.proofs.Common.{◌≡◌, ◌<◌, ◌≤◌, ℕ, suc, ◌+◌, ◌*◌, ◌/◌, ◌^◌, ◌%◌, List, [], ◌∷◌, ◌++◌, length, drop, refl, sym, ap, ◌∙◌, arith, mod-eq_of_lt, mul-le-mul_right, append_assoc, append-nil, nat_eq, if◌then◌else◌}
use Rattle.std.proofs.Math.Nat.{mul-div-le}
use Rattle.jb_super.specs.Superblock.{Superblock}
use Rattle.jb_super.specs.Geometry.{place}
use Rattle.jb_dump.specs.Picture.{begun_in, column_of, columns_upto}
use Rattle.jb_dump.specs.Summary.{sum_of}

pub columns-more : (text : ℕ → List ℕ) (n : ℕ) → columns_upto text (n + 1) ≡ columns_upto text n ++ text n
columns-more text n = let is : n + 1 ≡ suc n = omega arith in ap (columns_upto text) is

-- this many transactions are counted, and the others begin at this block: with those that begin behind them in a column
-- they are all
pub record BegunUpTo (s : Superblock) (sizes : List ℕ) (column i at begun : ℕ) : Type 0 where
  pub rest : begun + begun_in s column at (drop i sizes) ≡ begun_in s column 0 sizes
  pub behind : at + sum_of (drop i sizes) ≡ sum_of sizes

pub counted-more : (s : Superblock) (sizes : List ℕ) (column i at begun one size next : ℕ) → sum_of sizes < 2 ^ 32 → BegunUpTo s sizes column i at begun
    → drop i sizes ≡ size ∷ drop (i + 1) sizes → one ≡ (if nat_eq (column_of s (place s at)) column then 1 else 0) → next ≡ (at + size) % 2 ^ 32
    → BegunUpTo s sizes column (i + 1) next (begun + one)
counted-more s sizes column i at begun one size next few counted is here goes =
    let sums : at + (size + sum_of (drop (i + 1) sizes)) ≡ sum_of sizes = ap (λ l. at + sum_of l) (sym is) ∙ counted.behind in
    let there : next ≡ at + size = goes ∙ mod-eq_of_lt (omega (arith, sums, few)) in
    let all : begun + (one + begun_in s column (at + size) (drop (i + 1) sizes)) ≡ begun_in s column 0 sizes =
    ap (λ n. begun + (n + begun_in s column (at + size) (drop (i + 1) sizes))) here ∙ ap (λ l. begun + begun_in s column at l) (sym is) ∙ counted.rest in
    record {
      rest = rw there (omega (arith, all));
      behind = rw there (omega (arith, sums));
    }

pub part-within : (n k : ℕ) → 0 < k → n / k ≤ n
part-within n k some =
    let whole : k * (n / k) ≤ n = mul-div-le n k in
    let least : 1 * (n / k) ≤ k * (n / k) = mul-le-mul_right (n / k) some in
    omega (arith, whole, least)

-- parts that were put one after another
pub framed : {a b new : List ℕ} (old p q r : List ℕ) → a ≡ old ++ p → b ≡ a ++ q → new ≡ b ++ r → new ≡ old ++ (p ++ (q ++ r))
framed old p q r first second third = rw (third, second, first) (simp append_assoc)

pub six-parts : {t1 t2 t3 t4 t5 t6 : List ℕ} (old a b c d e f : List ℕ) → t1 ≡ old ++ a → t2 ≡ t1 ++ b → t3 ≡ t2 ++ c → t4 ≡ t3 ++ d → t5 ≡ t4 ++ e → t6 ≡ t5 ++ f
    → t6 ≡ old ++ ((a ++ (b ++ (c ++ (d ++ (e ++ []))))) ++ f)
six-parts old a b c d e f p1 p2 p3 p4 p5 p6 = rw (p6, p5, p4, p3, p2, p1) (simp (append_assoc, append-nil))
