-- How the calls of a list are written to buffers, and sorted by the blocks that they write.
use Rattle.std.proofs.Common.{◌≡◌, ◌<◌, ℕ, ◌+◌, List, [], ◌∷◌, ◌++◌, length, get_or, take, drop, map, reverse, sym, ◌∙◌, ap, subst, set, Vec, Global}
use Rattle.std.proofs.lemmas.List.{take_more, take-append-drop, map-append, reverse-append, map-set}
use Rattle.jb_disk.specs.Calls.{history_step, steps_of, image_of}
use Rattle.jb_disk.specs.History.{HistoryStep, Wrote, Synced, AreWhole, replay}
use Rattle.jb_disk.specs.declared.memory.Call.{Call}
use Rattle.jb_disk.specs.Image.{Image, HasShape}
use Rattle.jb_disk.specs.Lives.{replay_shape}
use Rattle.jb_disk.specs.declared.memory.Call.TheVariants.{Write}

-- ---- the steps of a list of calls, call by call

pub steps_of-append : (a b : List Call) → steps_of (a ++ b) ≡ steps_of b ++ steps_of a
steps_of-append a b = ap reverse (map-append history_step a b) ∙ reverse-append (map history_step a) (map history_step b)

-- one call more
pub steps_of-more : (calls : List Call) (i : ℕ) {call x : Call} → i < length calls → call ≡ get_or calls i call → call ≡ x → steps_of (take (i + 1) calls) ≡ history_step x ∷ steps_of (take i calls)
steps_of-more calls i {call} {x} inside is was =
    ap steps_of (take_more calls i call inside ∙ ap (λ y. take i calls ++ y ∷ []) (sym is ∙ was)) ∙ steps_of-append (take i calls) (x ∷ [])

pub steps_of-split : (calls : List Call) (i : ℕ) → steps_of calls ≡ steps_of (drop i calls) ++ steps_of (take i calls)
steps_of-split calls i = ap steps_of (sym (take-append-drop i calls)) ∙ steps_of-append (take i calls) (drop i calls)

whole-parts : (count size : ℕ) (newer older : List HistoryStep) → AreWhole count size (newer ++ older) → AreWhole count size newer × AreWhole count size older
whole-parts count size [] older whole = (tt, whole)
whole-parts count size (Wrote place bytes ∷ newer) older whole = let parts = whole-parts count size newer older whole.2 in ((whole.0, whole.1, parts.0), parts.1)
whole-parts count size (Synced ∷ newer) older whole = whole-parts count size newer older whole

-- the later calls are whole, and so are the earlier ones
pub whole-split : (count size : ℕ) (calls : List Call) (i : ℕ) → AreWhole count size (steps_of calls) → AreWhole count size (steps_of (drop i calls)) × AreWhole count size (steps_of (take i calls))
whole-split count size calls i whole = whole-parts count size (steps_of (drop i calls)) (steps_of (take i calls)) (subst (AreWhole count size) (steps_of-split calls i) whole)

-- the place and length of a write in the list
pub write_at : (count size : ℕ) (calls : List Call) (i : ℕ) {place : ℕ} {bytes : Vec ℕ Global} {call : Call} → AreWhole count size (steps_of calls) → i < length calls
    → call ≡ get_or calls i call → call ≡ Write place bytes → (place < count) × (length bytes.items ≡ size)
write_at count size calls i {place} {bytes} whole inside is write =
    let at : AreWhole count size (history_step (Write place bytes) ∷ steps_of (take i calls))
    = subst (AreWhole count size) (steps_of-more calls i inside is write) (whole-split count size calls (i + 1) whole).1 in
    (at.0, at.1)

-- ---- how the calls of a list are written to buffers

-- the buffers have the disk's shape all the time
pub replaying_shape : (count size : ℕ) (first : Image) (calls : List Call) (i : ℕ) → HasShape count size first → AreWhole count size (steps_of calls) → HasShape count size (replay first (steps_of (take i calls)))
replaying_shape count size first calls i shape whole = replay_shape count size first (steps_of (take i calls)) shape (whole-split count size calls i whole).1

pub replay-write : (first : Image) (calls : List Call) (i place : ℕ) (bytes : Vec ℕ Global) (buffers : List (Vec ℕ Global)) (new : Vec ℕ Global) {call : Call} → i < length calls
    → call ≡ get_or calls i call → call ≡ Write place bytes → image_of buffers ≡ replay first (steps_of (take i calls)) → new.items ≡ bytes.items
    → image_of (set buffers place new) ≡ replay first (steps_of (take (i + 1) calls))
replay-write first calls i place bytes buffers new inside is write so_far copied =
    map-set (λ b. b.items) buffers place new
    ∙ ap (λ b. set (image_of buffers) place b) copied
    ∙ ap (λ c. set c place bytes.items) so_far
    ∙ sym (ap (replay first) (steps_of-more calls i inside is write))
