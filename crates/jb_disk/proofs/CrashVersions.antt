-- What a crash may leave of a disk in memory is what takes one version for each sector, and nothing else.
use Rattle.std.proofs.Common.{◌≡◌, ◌<◌, ◌⊎◌, ℕ, ◌+◌, ◌*◌, List, [], ◌∷◌, ◌++◌, length, get_or, refl, sym, ◌∙◌, ap, subst, inl, inr, ⊎_elim, arith, length-append, ◌≢◌, set, length-set, get_or-set_same, get_or-set_other}
use Rattle.std.proofs.lemmas.Bool.{cases_lt}
use Rattle.std.proofs.lemmas.List.{get_or_append_left, ext_get_or}
use Rattle.std.proofs.Math.Seq.{get_or-append_seam}
use Rattle.jb_disk.specs.Image.{sector, Image, block, HasShape}
use Rattle.jb_disk.specs.Versions.{IsAmong, synced, versions}
use Rattle.jb_disk.specs.History.{HistoryStep, Wrote, Synced, replay, MayLeave, AreWhole}
use Rattle.jb_disk.specs.Lives.{replay_shape}
use Rattle.jb_disk.specs.Writes.{shape_set}
use Rattle.jb_disk.proofs.BlockVersions.{IsPicked, picked}
use Rattle.jb_disk.proofs.Sectors.{same_sectors}
use Rattle.jb_disk.proofs.WritesByPlace.{written-more}

-- a version after one more write is an older one or the written bytes
older_or_last : (contents : List (List ℕ)) (k : ℕ) (bytes x : List ℕ) → IsAmong (contents ++ bytes ∷ []) k x → IsAmong contents k x ⊎ (x ≡ sector k bytes)
older_or_last contents k bytes x (n, below, is) =
    let longer : length (contents ++ bytes ∷ []) ≡ length contents + 1 = length-append contents (bytes ∷ []) in
    ⊎_elim (λ less. inl (n, less, is ∙ ap (sector k) (get_or_append_left contents (bytes ∷ []) [] n less)))
    (λ reaches. let last : n ≡ length contents = omega (arith, longer, below, reaches) in
    inr (is ∙ ap (λ m. sector k (get_or (contents ++ bytes ∷ []) m [])) last ∙ ap (sector k) (get_or-append_seam contents bytes [] [])))
    (cases_lt n (length contents))

-- images of one shape with the same sectors are the same
pub same_images : (count sectors : ℕ) (c d : Image) → HasShape count (512 * sectors) c → HasShape count (512 * sectors) d
    → ((p k : ℕ) → p < count → k < sectors → sector k (block c p) ≡ sector k (block d p)) → c ≡ d
same_images count sectors c d shape other each =
    ext_get_or [] c d (shape.blocks ∙ sym other.blocks)
    (λ p below. let inside : p < count = omega (arith, shape.blocks, below) in
    same_sectors sectors (block c p) (block d p) (omega (arith, shape.bytes p inside)) (shape.bytes p inside ∙ sym (other.bytes p inside)) (λ k less. each p k inside less))

-- an older version is still one, and the written bytes are the last
takes_written : (contents : List (List ℕ)) (k : ℕ) (bytes x old : List ℕ) → IsAmong contents k old → (x ≡ old) ⊎ (x ≡ sector k bytes) → IsAmong (contents ++ bytes ∷ []) k x
takes_written contents k bytes x old (n, below, is) (inl same) =
    (n, omega (arith, length-append contents (bytes ∷ []), below), same ∙ is ∙ ap (sector k) (sym (get_or_append_left contents (bytes ∷ []) [] n below)))
takes_written contents k bytes x old among (inr new) =
    (length contents, omega (arith, length-append contents (bytes ∷ [])), new ∙ ap (sector k) (sym (get_or-append_seam contents bytes [] [])))

-- each image takes one version for each sector
pub image_takes : (first : Image) (steps : List HistoryStep) (c : Image) → MayLeave first steps c → (p k : ℕ) → IsAmong (versions first steps p) k (sector k (block c p))
image_takes first [] c left p k = (0, omega arith, ap (λ image. sector k (block image p)) left)
image_takes first (Synced ∷ older) c left p k = (0, omega arith, ap (λ image. sector k (block image p)) left)
image_takes first (Wrote place bytes ∷ older) c (d, left, torn) p k =
    let among = image_takes first older d left p k in
    elim (written-more older place bytes p) [
      | inl (here, are) ↦ subst (λ ws. IsAmong (block (synced first older) p ∷ ws) k (sector k (block c p))) (sym are)
          (takes_written (versions first older p) k bytes (sector k (block c p)) (sector k (block d p)) among (rw here at torn.sectors k))
      | inr (other, are) ↦ subst (λ ws. IsAmong (block (synced first older) p ∷ ws) k (sector k (block c p))) (sym are)
          (subst (IsAmong (versions first older p) k) (ap (sector k) (sym (torn.elsewhere p other))) among)
    ]

-- the image of the last sync has the disk's shape
pub synced_shape : (count size : ℕ) (first : Image) (steps : List HistoryStep) → HasShape count size first → AreWhole count size steps → HasShape count size (synced first steps)
synced_shape count size first [] shape whole = shape
synced_shape count size first (Wrote place bytes ∷ older) shape whole = synced_shape count size first older shape whole.2
synced_shape count size first (Synced ∷ older) shape whole = replay_shape count size first older shape whole

-- where there is one version, that is it
pub only_version : (bytes : List ℕ) (k : ℕ) (x : List ℕ) → IsAmong (bytes ∷ []) k x → x ≡ sector k bytes
only_version bytes k x (n, below, is) =
    let first : n ≡ 0 = omega (arith, below) in
    is ∙ ap (λ m. sector k (get_or (bytes ∷ []) m [])) first

-- each choice of one version for each sector is an image
pub choice_left : (count sectors : ℕ) (first : Image) (steps : List HistoryStep) (c : Image) → HasShape count (512 * sectors) first → AreWhole count (512 * sectors) steps → HasShape count (512 * sectors) c
    → ((p k : ℕ) → p < count → k < sectors → IsAmong (versions first steps p) k (sector k (block c p))) → MayLeave first steps c
choice_left count sectors first [] c shape whole chosen each = same_images count sectors c first chosen shape (λ p k inside less. only_version (block first p) k (sector k (block c p)) (each p k inside less))
choice_left count sectors first (Synced ∷ older) c shape whole chosen each =
    same_images count sectors c (replay first older) chosen (replay_shape count (512 * sectors) first older shape whole)
    (λ p k inside less. only_version (block (replay first older) p) k (sector k (block c p)) (each p k inside less))
choice_left count sectors first (Wrote place bytes ∷ older) c shape whole chosen each =
    let inside : place < length c = omega (arith, chosen.blocks, whole.0) in
    let base : length (block (synced first older) place) ≡ 512 * sectors = (synced_shape count (512 * sectors) first older shape whole.2).bytes place whole.0 in
    let size : length (block c place) ≡ 512 * sectors = chosen.bytes place whole.0 in
    let now = block c place in
    let back : (x : List ℕ) × (length x ≡ 512 * sectors) × IsPicked sectors (λ k x. IsAmong (versions first older place) k x × ((sector k now ≡ x) ⊎ (sector k now ≡ sector k bytes))) now x
    = picked sectors sectors _ now (omega arith) size (λ k less. elim (written-more older place bytes place) [
      | inl (here, are) ↦ ⊎_elim (λ old. (now, size, (old, inl refl))) (λ new. (block (synced first older) place, base, ((0, omega arith, refl), inr new)))
          (older_or_last (versions first older place) k bytes (sector k now) (subst (λ ws. IsAmong (block (synced first older) place ∷ ws) k (sector k now)) are (each place k whole.0 less)))
      | inr (other, are) ↦ absurd (other refl)
    ]) in
    let d = set c place back.0 in
    let here : block d place ≡ back.0 = get_or-set_same c place back.0 [] inside in
    let others : (p : ℕ) → p ≢ place → block d p ≡ block c p = λ p other. get_or-set_other c place p back.0 [] other in (
      d,
      choice_left count sectors first older d shape whole.2 (shape_set count (512 * sectors) c place back.0 chosen whole.0 back.1)
          (λ p k below less. elim (written-more older place bytes p) [
            | inl (is, are) ↦ subst (λ q. IsAmong (versions first older q) k (sector k (block d q))) is
                (subst (λ b. IsAmong (versions first older place) k (sector k b)) (sym here) (back.2.chosen k less).0)
            | inr (other, are) ↦ subst (λ b. IsAmong (versions first older p) k (sector k b)) (sym (others p other))
                (subst (λ ws. IsAmong (block (synced first older) p ∷ ws) k (sector k (block c p))) are (each p k below less))
          ]),
      record {
        count = sym (length-set c place back.0);
        elsewhere = λ p other. sym (others p other);
        size = size ∙ sym back.1 ∙ sym (ap length here);
        sectors = λ k. subst (λ b. (sector k now ≡ sector k b) ⊎ (sector k now ≡ sector k bytes)) (sym here)
            (⊎_elim (λ less. (back.2.chosen k less).1) (λ above. inl (sym (back.2.rest k above))) (cases_lt k sectors));
      },
    )
