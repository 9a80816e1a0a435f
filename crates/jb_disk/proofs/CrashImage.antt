-- From the parts of a crash to its image; and each image that a crash may leave is reached by some choice of numbers.
use Rattle.std.proofs.Common.{◌≡◌, ◌<◌, ◌≤◌, ℕ, zero, suc, ◌+◌, ◌*◌, ◌/◌, ◌%◌, List, [], ◌∷◌, length, get_or, refl, sym, ◌∙◌, ap, arith, All, eqb, ◌↔◌, ◌++◌, map, subst, ⊎_elim, length-append, mod-eq_of_lt, mul-le-mul_right}
use Rattle.std.proofs.lemmas.Nat.{mod_below}
use Rattle.jb_block.specs.declared.size.BlockSize.{BlockSize}
use Rattle.jb_block.specs.declared.size.BlockSize.TheVariants.{OneKib}
use Rattle.jb_block.specs.Size.{bytes_of}
use Rattle.jb_disk.specs.History.{DiskHistory, HistoryStep, Wrote, Synced, AreWhole, IsHistorySound, MayLeave}
use Rattle.jb_disk.specs.CrashWrites.{writes_at, any_below}
use Rattle.jb_disk.specs.Image.{Image, block, sector, HasShape}
use Rattle.jb_disk.specs.Versions.{IsAmong, IsChosen, synced, written, written_below, version, versions, one_if_any}
use Rattle.jb_disk.proofs.BlockVersions.{all_more}
use Rattle.jb_disk.proofs.CrashVersions.{choice_left, image_takes, only_version}
use Rattle.std.proofs.lemmas.Bool.{cases_lt}
use Rattle.std.proofs.lemmas.List.{get_or-append-add, get_or_append_left}
use Rattle.std.proofs.lemmas.List.FromFn.{get_or-map-range_with_len, length-map-range_with_len}
use Rattle.std.specs.List.{range_with_len}
use Rattle.jb_disk.specs.Laws.{TakesVersions}
use Rattle.jb_disk.specs.Lives.{left_has_shape}
use Rattle.jb_disk.proofs.ImageVersions.{only_first}

-- a block is as many whole sectors
pub whole_sectors : (size : BlockSize) → bytes_of size ≡ 512 * (bytes_of size / 512)
whole_sectors OneKib = refl
whole_sectors _ = refl

-- what was written has the size of a block
pub written_whole : (count size : ℕ) (steps : List HistoryStep) (place : ℕ) → AreWhole count size steps → All (λ b. length b ≡ size) (written steps place)
written_whole count size [] place whole = λ k d below. absurd (let h : ⊥ = omega (arith, below) in h)
written_whole count size (Synced ∷ older) place whole = λ k d below. absurd (let h : ⊥ = omega (arith, below) in h)
written_whole count size (Wrote p bytes ∷ older) place whole =
    all_more size (eqb p place) (written older place) bytes (written_whole count size older place whole.2) whole.1

-- the table counts the blocks that have been written
pub any_below-is : (count : ℕ) (table : List (List (List ℕ))) (steps : List HistoryStep) → ((p : ℕ) → p < count → writes_at table p ≡ written steps p) → (place : ℕ) → place ≤ count → any_below table place ≡ written_below steps place
any_below-is count table steps each zero below = refl
any_below-is count table steps each (suc place) below =
    ap (λ n. n + one_if_any (writes_at table place)) (any_below-is count table steps each place (omega (arith, below)))
    ∙ ap (λ ws. written_below steps place + one_if_any ws) (each place (omega (arith, below)))

-- the image by the parts is the image by the history
pub chosen_by_history : (count sectors : ℕ) (first stable now : Image) (steps : List HistoryStep) (table : List (List (List ℕ))) (choice : List ℕ) → synced first steps ≡ stable
    → ((p : ℕ) → p < count → writes_at table p ≡ written steps p)
    → ((place k : ℕ) → place < count → k < sectors → sector k (block now place) ≡ sector k (version (block stable place ∷ writes_at table place) (get_or choice (any_below table place * sectors + k) 0)))
    → (place k : ℕ) → place < count → k < sectors → sector k (block now place) ≡ sector k (version (versions first steps place) (get_or choice (written_below steps place * sectors + k) 0))
chosen_by_history count sectors first stable now steps table choice before each chosen place k inside less =
    chosen place k inside less
    ∙ ap (λ c. sector k (version (block c place ∷ writes_at table place) (get_or choice (any_below table place * sectors + k) 0))) (sym before)
    ∙ ap (λ ws. sector k (version (block (synced first steps) place ∷ ws) (get_or choice (any_below table place * sectors + k) 0))) (each place inside)
    ∙ ap (λ n. sector k (version (versions first steps place) (get_or choice (n * sectors + k) 0))) (any_below-is count table steps each place (omega (arith, inside)))

-- an image of the disk's shape that takes a version for each sector is one that a crash may leave
pub takes_left : (h : DiskHistory) (c : Image) → IsHistorySound h → HasShape h.count (bytes_of h.size) c
    → ((p k : ℕ) → p < h.count → k < bytes_of h.size / 512 → IsAmong (versions h.first h.steps p) k (sector k (block c p))) → MayLeave h.first h.steps c
takes_left h c sound shape =
    choice_left h.count (bytes_of h.size / 512) h.first h.steps c
    (rw (whole_sectors h.size) at sound.shape) (rw (whole_sectors h.size) at sound.whole) (rw (whole_sectors h.size) at shape)

-- and so is one that a choice names
pub chosen_left : (h : DiskHistory) (choice : List ℕ) (c : Image) → IsHistorySound h → IsChosen h choice c → MayLeave h.first h.steps c
chosen_left h choice c sound is = takes_left h c sound is.shape
    (λ place k inside less.
    let number : ℕ = get_or choice (written_below h.steps place * (bytes_of h.size / 512) + k) 0 in (
      number % length (versions h.first h.steps place),
      mod_below number (length (versions h.first h.steps place)) (omega arith),
      is.each place k inside less,
    ))

-- ---- the numbers of a choice, block by block

-- those of one block: one for each sector, where it has been written
abbrev of_block : List (List ℕ) → (ℕ → ℕ) → ℕ → List ℕ
of_block [] f sectors = []
of_block (_ ∷ _) f sectors = map f (range_with_len 0 sectors)

length-of_block : (writes : List (List ℕ)) (f : ℕ → ℕ) (sectors : ℕ) → length (of_block writes f sectors) ≡ one_if_any writes * sectors
length-of_block [] f sectors = omega arith
length-of_block (_ ∷ _) f sectors = let one : 1 * sectors ≡ sectors = omega arith in length-map-range_with_len f 0 sectors ∙ sym one

get_or-of_block : (writes : List (List ℕ)) (f : ℕ → ℕ) (sectors k : ℕ) → one_if_any writes ≡ 1 → k < sectors → get_or (of_block writes f sectors) k 0 ≡ f k
get_or-of_block [] f sectors k any within = absurd (let h : ⊥ = omega (arith, any) in h)
get_or-of_block (_ ∷ _) f sectors k any within = get_or-map-range_with_len f 0 sectors k k 0 within (omega arith)

module _ (pick : ℕ → ℕ → ℕ) (steps : List HistoryStep) (sectors : ℕ) where
  -- those of the blocks below a place
  abbrev numbers : ℕ → List ℕ
  numbers zero = []
  numbers (suc place) = numbers place ++ of_block (written steps place) (pick place) sectors

  length-numbers : (place : ℕ) → length (numbers place) ≡ written_below steps place * sectors
  length-numbers zero = omega arith
  length-numbers (suc place) =
      let block = of_block (written steps place) (pick place) sectors in
      omega (arith, length-append (numbers place) block, length-numbers place, length-of_block (written steps place) (pick place) sectors)

  -- a written block below a place counts there
  counted-below : (p place : ℕ) → p < place → one_if_any (written steps p) ≡ 1 → written_below steps p + 1 ≤ written_below steps place
  counted-below p zero below any = absurd (let h : ⊥ = omega (arith, below) in h)
  counted-below p (suc place) below any = ⊎_elim
      (λ less. omega (arith, counted-below p place less any))
      (λ reaches. rw (let here : place ≡ p = omega (arith, below, reaches) in here) (omega (arith, any))) (cases_lt p place)

  get_or-numbers : (count p k : ℕ) → p < count → k < sectors → one_if_any (written steps p) ≡ 1 → get_or (numbers count) (written_below steps p * sectors + k) 0 ≡ pick p k
  get_or-numbers zero p k below within any = absurd (let h : ⊥ = omega (arith, below) in h)
  get_or-numbers (suc count) p k below within any = ⊎_elim
      (λ less.
      let more = mul-le-mul_right sectors (counted-below p count less any) in
      get_or_append_left (numbers count) (of_block (written steps count) (pick count) sectors) 0 (written_below steps p * sectors + k) (omega (arith, more, within, length-numbers count))
      ∙ get_or-numbers count p k less within any)
      (λ reaches. let here : count ≡ p = omega (arith, below, reaches) in
      subst (λ q. one_if_any (written steps q) ≡ 1 → get_or (numbers count ++ of_block (written steps count) (pick count) sectors) (written_below steps q * sectors + k) 0 ≡ pick q k) here
      (λ some.
      ap (λ n. get_or (numbers count ++ of_block (written steps count) (pick count) sectors) (n + k) 0) (sym (length-numbers count))
      ∙ get_or-append-add (numbers count) (of_block (written steps count) (pick count) sectors) k 0
      ∙ get_or-of_block (written steps count) (pick count) sectors k some within) any) (cases_lt p count)

-- ---- the choice of an image

-- a version that is among a block's is the one of its number
named : (base : List ℕ) (writes : List (List ℕ)) (k number : ℕ) (x : List ℕ) (among : IsAmong (base ∷ writes) k x) → (one_if_any writes ≡ 1 → number ≡ among.0) → x ≡ sector k (version (base ∷ writes) number)
named base [] k number x among is = only_version base k x among ∙ ap (sector k) (sym (only_first base number))
named base (w ∷ writes) k number x among is =
    among.2
    ∙ ap (λ n. sector k (get_or (base ∷ w ∷ writes) n [])) (sym (mod-eq_of_lt among.1))
    ∙ ap (λ n. sector k (version (base ∷ w ∷ writes) n)) (sym (is refl))

left_shape : (h : DiskHistory) (c : Image) → IsHistorySound h → MayLeave h.first h.steps c → HasShape h.count (bytes_of h.size) c
left_shape h c sound left = left_has_shape h.count (bytes_of h.size) h.first h.steps c sound.shape sound.whole left

chosen : (h : DiskHistory) (c : Image) → IsHistorySound h → MayLeave h.first h.steps c → (choice : List ℕ) × IsChosen h choice c
chosen h c sound left =
    let sectors : ℕ = bytes_of h.size / 512 in
    let among : (p k : ℕ) → IsAmong (versions h.first h.steps p) k (sector k (block c p)) = image_takes h.first h.steps c left in
    let choice : List ℕ = numbers (λ p k. (among p k).0) h.steps sectors h.count in (
      choice,
      record {
        shape = left_shape h c sound left;
        each = λ place k inside less.
            named (block (synced h.first h.steps) place) (written h.steps place) k (get_or choice (written_below h.steps place * sectors + k) 0) (sector k (block c place)) (among place k)
            (get_or-numbers (λ p i. (among p i).0) h.steps sectors h.count place k inside less);
      },
    )

pub left-versions : (h : DiskHistory) (c : Image) → IsHistorySound h → MayLeave h.first h.steps c ↔ TakesVersions h c
left-versions h c sound = (
  λ left. record { shape = left_shape h c sound left; each = λ place k inside less. image_takes h.first h.steps c left place k },
  λ takes. takes_left h c sound takes.shape takes.each,
)

pub left-chosen : (h : DiskHistory) (c : Image) → IsHistorySound h → MayLeave h.first h.steps c ↔ ((choice : List ℕ) × IsChosen h choice c)
left-chosen h c sound = (chosen h c sound, λ is. chosen_left h is.0 c sound is.1)
