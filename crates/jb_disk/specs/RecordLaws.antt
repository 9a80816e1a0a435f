-- The laws of a disk, of a record of calls that agrees with some contents.
use Rattle.std.proofs.Common.{◌≡◌, ◌≤◌, ℕ, Bool, true, false, List, [], ◌∷◌, length, refl, sym, ◌∙◌, subst, inl, inr}
use Rattle.std.proofs.Common.{⊎_elim, ap, arith}
use Rattle.std.proofs.lemmas.Bool.{cases_lt}
use Rattle.std.proofs.lemmas.List.{get_or_past}
use Rattle.jb_disk.specs.Image.{Image, block, sector, HasShape}
use Rattle.jb_disk.specs.Runs.{WroteRun, TornRun}
use Rattle.jb_disk.specs.Events.{SystemCall, Asked, Gave, Flushed, Measured, SameShape, Makes, Agree, LeftBy, Leaves}
use Rattle.jb_disk.specs.Events.{LeftFrom}

-- ---- shapes

-- a block past the end is none
same_size : (count size : ℕ) (old new : Image) (p : ℕ) → HasShape count size old → HasShape count size new
    → length (block new p) ≡ length (block old p)
same_size count size old new p was is = ⊎_elim
    (λ inside. is.bytes p inside ∙ sym (was.bytes p inside))
    (λ past. ap length (get_or_past new p [] (omega (arith, past, is.blocks)))
    ∙ sym (ap length (get_or_past old p [] (omega (arith, past, was.blocks)))))
    (cases_lt p count)

-- what a whole write makes of a content is one of the ways in which a torn one may end
pub torn_of_wrote : (count size n place : ℕ) (bytes : List ℕ) (old new : Image) → HasShape count size old
    → HasShape count size new → WroteRun size n place bytes old new → TornRun size n place bytes old new
torn_of_wrote count size n place bytes old new was is wrote = record {
  count = wrote.count;
  sizes = λ p. same_size count size old new p was is;
  sectors = λ k j below. inr (ap (sector j) (wrote.inside k below));
  elsewhere = wrote.elsewhere;
}

-- ---- the laws of one call

shape_same : (count size : ℕ) (old new : Image) → HasShape count size old → SameShape old new → HasShape count size new
shape_same count size old new shape same = record {
  blocks = same.count ∙ shape.blocks;
  bytes = λ p inside. same.sizes p ∙ shape.bytes p inside;
}

same_shapes : (count size : ℕ) (old new : Image) → HasShape count size old → HasShape count size new → SameShape old new
same_shapes count size old new was is =
    record { count = is.blocks ∙ sym was.blocks; sizes = λ p. same_size count size old new p was is }

newest_by : (count size : ℕ) (e : SystemCall) (old new : Image) (before : Image → Type 0) → HasShape count size old
    → HasShape count size new
    → before old → Makes size e old new → LeftBy size e old before new
newest_by count size (Asked at true bytes) old new before was is stays makes = subst before (sym makes.0) stays
newest_by count size (Asked at false bytes) old new before was is stays makes = subst before (sym makes) stays
newest_by count size (Gave at true bytes) old new before was is stays makes = (
  old,
  stays,
  same_shapes count size old new was is,
  λ place n here long. torn_of_wrote count size n place bytes old new was is (makes place n here long),
)
newest_by count size (Gave at false bytes) old new before was is stays makes =
    (old, stays, same_shapes count size old new was is, makes)
newest_by count size (Flushed true) old new before was is stays makes = makes
newest_by count size (Flushed false) old new before was is stays makes = subst before (sym makes) stays
newest_by count size (Measured len) old new before was is stays makes = subst before (sym makes.0) stays

shape_by : (count size : ℕ) (e : SystemCall) (now : Image) (before : Image → Type 0) (c : Image)
    → HasShape count size now
    → ((d : Image) → before d → HasShape count size d) → LeftBy size e now before c → HasShape count size c
shape_by count size (Asked at ok bytes) now before c shape shapes left = shapes c left
shape_by count size (Gave at ok bytes) now before c shape shapes left =
    shape_same count size left.0 c (shapes left.0 left.1) left.2
shape_by count size (Flushed true) now before c shape shapes left = subst (HasShape count size) (sym left) shape
shape_by count size (Flushed false) now before c shape shapes left = shapes c left
shape_by count size (Measured len) now before c shape shapes left = shapes c left

-- ---- the laws of a disk

module _ (count size : ℕ) (content : ℕ → Image) (shapes : (t : ℕ) → HasShape count size (content t)) where
  -- a crash may leave the newest content
  pub newest_left : (events : List SystemCall) → Agree size content events
      → Leaves size content events (content (length events))
  newest_left [] agree = refl
  newest_left (e ∷ older) agree =
      newest_by count size e (content (length older)) (content (length (e ∷ older))) (Leaves size content older)
      (shapes (length older)) (shapes (length (e ∷ older))) (newest_left older agree.0) agree.1

  -- what a crash may leave has the shape of the disk
  pub left_shape : (events : List SystemCall) (c : Image) → Leaves size content events c → HasShape count size c
  left_shape [] c left = subst (HasShape count size) (sym left) (shapes 0)
  left_shape (e ∷ older) c left =
      shape_by count size e (content (length older)) (Leaves size content older) c (shapes (length older))
      (left_shape older) left

  -- and what any of the moments might have left
  pub from_shape : (events : List SystemCall) (t : ℕ) (c : Image) → LeftFrom size content events t c
      → HasShape count size c
  from_shape [] t c left = left_shape [] c left.1
  from_shape (e ∷ older) t c (inl left) = left_shape (e ∷ older) c left.1
  from_shape (e ∷ older) t c (inr left) = from_shape older t c left

module _ (size : ℕ) (content : ℕ → Image) where
  -- what a crash may leave now it may have left since an earlier moment
  pub left_from_now : (events : List SystemCall) (t : ℕ) (c : Image) → t ≤ length events → Leaves size content events c
      → LeftFrom size content events t c
  left_from_now [] t c earlier left = (earlier, left)
  left_from_now (e ∷ older) t c earlier left = inl (omega (arith, earlier), left)

  -- no moment is after the last
  none_after : (events : List SystemCall) (t : ℕ) (c : Image) → LeftFrom size content events t c → t ≤ length events
  none_after [] t c left = left.0
  none_after (e ∷ older) t c (inl left) = omega (arith, left.0)
  none_after (e ∷ older) t c (inr left) = omega (arith, none_after older t c left)

  -- what a crash may leave since this moment is what it may leave now
  pub left_from_only : (events : List SystemCall) (c : Image) → LeftFrom size content events (length events) c
      → Leaves size content events c
  left_from_only [] c left = left.1
  left_from_only (e ∷ older) c (inl left) = left.1
  left_from_only (e ∷ older) c (inr left) =
      absurd (let h : ⊥ = omega (arith, none_after older (length (e ∷ older)) c left) in h)
