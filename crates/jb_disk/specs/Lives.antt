-- The laws of a disk in memory, by recursion on its steps.
use Rattle.std.proofs.Common.{◌≡◌, ◌<◌, ◌≤◌, ℕ, List, [], ◌∷◌, length, refl, sym, ◌∙◌, subst, inl, inr, arith}
use Rattle.jb_block.specs.declared.size.BlockSize.{BlockSize}
use Rattle.jb_block.specs.declared.size.BlockSize.TheVariants.{OneKib, TwoKib, FourKib}
use Rattle.jb_block.specs.Size.{bytes_of, IsBlockSize}
use Rattle.jb_disk.specs.Image.{Image, block, HasShape}
use Rattle.jb_disk.specs.History.{HistoryStep, Wrote, Synced, replay, MayLeave, LeftSince, AreWhole}
use Rattle.jb_disk.specs.Writes.{torn_whole, shape_torn, shape_set}

-- the bytes of a size are a block size
pub bytes_are_block_size : (size : BlockSize) → IsBlockSize (bytes_of size)
bytes_are_block_size OneKib = inl refl
bytes_are_block_size TwoKib = inr (inl refl)
bytes_are_block_size FourKib = inr (inr refl)

-- whole writes keep the shape of the first content
pub replay_shape : (count size : ℕ) (first : Image) (steps : List HistoryStep) → HasShape count size first
    → AreWhole count size steps → HasShape count size (replay first steps)
replay_shape count size first [] shape whole = shape
replay_shape count size first (Wrote place bytes ∷ older) shape whole =
    shape_set count size (replay first older) place bytes (replay_shape count size first older shape whole.2) whole.0
    whole.1
replay_shape count size first (Synced ∷ older) shape whole = replay_shape count size first older shape whole

-- a crash may leave the newest content
pub newest_stays : (count size : ℕ) (first : Image) (steps : List HistoryStep) → HasShape count size first
    → AreWhole count size steps → MayLeave first steps (replay first steps)
newest_stays count size first [] shape whole = refl
newest_stays count size first (Wrote place bytes ∷ older) shape whole =
    let before : HasShape count size (replay first older) = replay_shape count size first older shape whole.2 in
    let inside : place < length (replay first older) = omega (arith, before.blocks, whole.0) in
    let bytes_whole : length bytes ≡ length (block (replay first older) place) =
    whole.1 ∙ sym (before.bytes place whole.0) in (
      replay first older,
      newest_stays count size first older shape whole.2,
      torn_whole (replay first older) place bytes inside bytes_whole,
    )
newest_stays count size first (Synced ∷ older) shape whole = refl

-- what a crash may leave has the shape of the disk
pub left_has_shape : (count size : ℕ) (first : Image) (steps : List HistoryStep) (c : Image) → HasShape count size first
    → AreWhole count size steps → MayLeave first steps c → HasShape count size c
left_has_shape count size first [] c shape whole left = subst (HasShape count size) (sym left) shape
left_has_shape count size first (Wrote place bytes ∷ older) c shape whole left =
    shape_torn count size left.0 c place bytes (left_has_shape count size first older left.0 shape whole.2 left.1)
    left.2
left_has_shape count size first (Synced ∷ older) c shape whole left =
    subst (HasShape count size) (sym left) (replay_shape count size first older shape whole)

-- and what any of the moments might have left
pub since_has_shape : (count size : ℕ) (first : Image) (steps : List HistoryStep) (t : ℕ) (c : Image)
    → HasShape count size first → AreWhole count size steps → LeftSince first steps t c → HasShape count size c
since_has_shape count size first [] t c shape whole left = left_has_shape count size first [] c shape whole left.1
since_has_shape count size first (step ∷ older) t c shape whole (inl left) =
    left_has_shape count size first (step ∷ older) c shape whole left.1
since_has_shape count size first (Wrote place bytes ∷ older) t c shape whole (inr left) =
    since_has_shape count size first older t c shape whole.2 left
since_has_shape count size first (Synced ∷ older) t c shape whole (inr left) =
    since_has_shape count size first older t c shape whole left

-- what a crash may leave now it may have left since an earlier moment
pub left_since_now : (first : Image) (steps : List HistoryStep) (t : ℕ) (c : Image) → t ≤ length steps
    → MayLeave first steps c → LeftSince first steps t c
left_since_now first [] t c earlier left = (earlier, left)
left_since_now first (step ∷ older) t c earlier left = inl (omega (arith, earlier), left)

-- no moment is after the last
none_later : (first : Image) (steps : List HistoryStep) (t : ℕ) (c : Image) → LeftSince first steps t c
    → t ≤ length steps
none_later first [] t c left = left.0
none_later first (step ∷ older) t c (inl left) = omega (arith, left.0)
none_later first (step ∷ older) t c (inr left) = omega (arith, none_later first older t c left)

-- what a crash may leave since this moment is what it may leave now
pub left_only_now : (first : Image) (steps : List HistoryStep) (c : Image) → LeftSince first steps (length steps) c
    → MayLeave first steps c
left_only_now first [] c left = left.1
left_only_now first (step ∷ older) c (inl left) = left.1
left_only_now first (step ∷ older) c (inr left) =
    absurd (let h : ⊥ = omega (arith, none_later first older (length (step ∷ older)) c left) in h)
