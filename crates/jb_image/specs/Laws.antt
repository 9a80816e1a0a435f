-- The laws of two disks as one.
use Rattle.std.proofs.Common.{◌≡◌, ◌≤◌, ◌<◌, ℕ, ◌+◌, ◌-◌, ◌^◌, List, [], ◌∷◌, ◌++◌, length, refl, sym, ◌∙◌, ap, subst}
use Rattle.std.proofs.Common.{inl, inr, ⊎_elim, arith, length-append}
use Rattle.std.proofs.lemmas.Bool.{cases_lt}
use Rattle.std.proofs.lemmas.Bool.Decides.{nat_tests}
use Rattle.std.proofs.lemmas.List.{get_or_append_left, get_or-append_right}
use Rattle.jb_disk.specs.Image.{Image, HasShape}
use Rattle.jb_disk.specs.declared.disk.Disk.{Ghosts}
use Rattle.jb_image.specs.declared.pair.PairDisk.{PairDisk}
use Rattle.jb_image.specs.Past.{LeavesBoth, LeftOfBoth}
use Rattle.jb_image.specs.Pair.{back_disk, front_disk, joined_count, past_states, IsHonestPair, PairLeaves}
use Rattle.jb_image.specs.Pair.{PairLeftSince}

-- ---- images

-- an image after another one of its block size
pub shape-joined : (n m size : ℕ) (x y : Image) → HasShape n size x → HasShape m size y → HasShape (n + m) size (x ++ y)
shape-joined n m size x y first second = record {
  blocks = omega (arith, length-append x y, first.blocks, second.blocks);
  bytes = λ p inside. ⊎_elim
      (λ below. ap length (get_or_append_left x y [] p (omega (arith, first.blocks, below))) ∙ first.bytes p below)
      (λ past. ap length (get_or-append_right x y n p [] first.blocks past)
      ∙ second.bytes (p - n) (omega (arith, inside, past)))
      (cases_lt p n);
}

-- each block of both disks is counted
pub all-joined : (size count other more : ℕ) → size ≡ other → count + more < 2 ^ 64
    → joined_count size count other more ≡ count + more
all-joined size count other more same fits =
    grind (arith, nat_tests)

-- ---- moments

module _ {A B : Type 0} (leaves : A → Image → Type 0) (moment : A → ℕ) (since : A → ℕ → Image → Type 0)
    (leaves' : B → Image → Type 0) (moment' : B → ℕ) (since' : B → ℕ → Image → Type 0) where
  -- what a crash may leave now it might have left since an earlier moment
  pub left_from-now : (now : A × B) (past : List (A × B)) (t : ℕ) (c : Image) → t ≤ length past
      → LeavesBoth leaves moment since leaves' moment' since' now c
      → LeftOfBoth leaves moment since leaves' moment' since' now past t c
  left_from-now now [] t c earlier left = (earlier, left)
  left_from-now now (before ∷ older) t c earlier left = inl (omega (arith, earlier), left)

  -- no moment is after the last
  pub none_later : (now : A × B) (past : List (A × B)) (t : ℕ) (c : Image)
      → LeftOfBoth leaves moment since leaves' moment' since' now past t c → t ≤ length past
  none_later now [] t c left = left.0
  none_later now (before ∷ older) t c (inl left) = omega (arith, left.0)
  none_later now (before ∷ older) t c (inr (inl left)) = omega (arith, left.0)
  none_later now (before ∷ older) t c (inr (inr left)) = omega (arith, none_later before older t c left)

  -- since this moment there is no other
  pub left_from-only : (now : A × B) (past : List (A × B)) (c : Image)
      → LeftOfBoth leaves moment since leaves' moment' since' now past (length past) c
      → LeavesBoth leaves moment since leaves' moment' since' now c
  left_from-only now [] c left = left.1
  left_from-only now (before ∷ older) c (inl left) = left.1
  left_from-only now (before ∷ older) c (inr (inl left)) =
      absurd (let h : ⊥ = omega (arith, left.0) in h)
  left_from-only now (before ∷ older) c (inr (inr left)) =
      absurd (let h : ⊥ = omega (arith, none_later before older (length (before ∷ older)) c left) in h)

-- ---- the laws

module _ {A B : Type 0} (G : Ghosts A) (H : Ghosts B) (p : PairDisk A B) where
  -- a crash may leave what reads of both give
  pub leaves_newest : G.may_leave (front_disk p) (G.newest (front_disk p))
      → H.may_leave (back_disk p) (H.newest (back_disk p))
      → PairLeaves G H p (G.newest (front_disk p) ++ H.newest (back_disk p))
  leaves_newest first second =
      record {
        front = G.newest (front_disk p);
        back = H.newest (back_disk p);
        first = first;
        second = second;
        joined = refl;
      }

  -- what a crash may leave of both has the shape of the pair
  pub has_both_shapes : (c : Image) → IsHonestPair G H p
      → ((x : Image) → G.may_leave (front_disk p) x → HasShape (G.count (front_disk p)) (G.size (front_disk p)) x)
      → ((y : Image) → H.may_leave (back_disk p) y → HasShape (H.count (back_disk p)) (H.size (back_disk p)) y)
      → PairLeaves G H p c
      → HasShape (joined_count (G.size (front_disk p)) (G.count (front_disk p)) (H.size (back_disk p))
      (H.count (back_disk p))) (G.size (front_disk p)) c
  has_both_shapes c honest first second left =
      let size = G.size (front_disk p) in
      let n = G.count (front_disk p) in
      let m = H.count (back_disk p) in
      let back : HasShape m size left.back =
      subst (λ s. HasShape m s left.back) (sym honest.same_size) (second left.back left.second) in
      let both : HasShape (n + m) size c =
      subst (HasShape (n + m) size) (sym left.joined)
      (shape-joined n m size left.front left.back (first left.front left.first) back) in
      subst (λ k. HasShape k size c) (sym (all-joined size n (H.size (back_disk p)) m honest.same_size
      honest.all_counted)) both

  -- so has what a crash might have left since a moment
  pub since_has_both_shapes : (t : ℕ) (c : Image) → PairLeftSince G H p t c
      → HasShape (joined_count (G.size (front_disk p)) (G.count (front_disk p)) (H.size (back_disk p))
      (H.count (back_disk p))) (G.size (front_disk p)) c
  since_has_both_shapes t c left = left.shape

  -- what a crash may leave now it might have left since an earlier moment
  pub counts_both : (t : ℕ) (c : Image) → IsHonestPair G H p
      → ((x : Image) → G.may_leave (front_disk p) x → HasShape (G.count (front_disk p)) (G.size (front_disk p)) x)
      → ((y : Image) → H.may_leave (back_disk p) y → HasShape (H.count (back_disk p)) (H.size (back_disk p)) y)
      → t ≤ length (past_states p) → PairLeaves G H p c → PairLeftSince G H p t c
  counts_both t c honest first second earlier left = record {
    shape = has_both_shapes c honest first second left;
    left =
        left_from-now G.may_leave G.moment G.left_since H.may_leave H.moment H.left_since (front_disk p, back_disk p)
        (past_states p) t c earlier left;
  }

  -- since this moment there is no other
  pub only_both : (c : Image) → PairLeftSince G H p (length (past_states p)) c → PairLeaves G H p c
  only_both c left =
      left_from-only G.may_leave G.moment G.left_since H.may_leave H.moment H.left_since (front_disk p, back_disk p)
      (past_states p) c left.left
