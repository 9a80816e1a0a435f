-- The buffers of a disk in memory hold the blocks of its newest content, and how its life goes on by its calls.
use Rattle.std.proofs.Common.{◌≡◌, ◌<◌, ℕ, List, [], ◌∷◌, length, get_or, replicate, set, sym, ◌∙◌, ap, subst, arith, Vec, Global, vec_len, inl, inr, ⊎_elim}
use Rattle.std.proofs.lemmas.List.{length-map, length-replicate, get_or-map, get_or-replicate, map-set}
use Rattle.jb_block.specs.Size.{bytes_of}
use Rattle.jb_disk.specs.Image.{Image, block, HasShape, ChangesNothing, Torn}
use Rattle.jb_disk.specs.Calls.{image_of, steps_of}
use Rattle.jb_disk.specs.History.{DiskHistory, HistoryStep, Wrote, IsHistorySound, newest_of, Synced, replay, MayLeave, LeftSince}
use Rattle.jb_disk.specs.Lives.{replay_shape, newest_stays}
use Rattle.jb_disk.specs.Memory.{history_of, IsHistoryKept}
use Rattle.jb_disk.specs.declared.memory.MemoryDisk.TheInside.{Inside}
use Rattle.jb_disk.specs.declared.memory.Call.{Call}
use Rattle.std.specs.Vec.{with_item}
use Rattle.jb_disk.specs.Time.{Goes}
use Rattle.jb_disk.specs.Writes.{torn_same, torn_whole}

-- as many buffers as blocks
pub buffers_count : (count size : ℕ) (c : Image) (buffers : List (Vec ℕ Global)) → HasShape count size c → image_of buffers ≡ c → length buffers ≡ count
buffers_count count size c buffers shape is = sym (length-map buffers (λ b. b.items)) ∙ ap length is ∙ shape.blocks

-- the buffer at a place holds the block there
pub buffer_at : (count size : ℕ) (c : Image) (buffers : List (Vec ℕ Global)) (place : ℕ) (b : Vec ℕ Global) → HasShape count size c → image_of buffers ≡ c → place < count → b ≡ get_or buffers place b → b.items ≡ block c place
buffer_at count size c buffers place b shape is inside here =
    let within : place < length buffers = omega (arith, buffers_count count size c buffers shape is, inside) in
    ap (λ v. v.items) here ∙ sym (get_or-map (λ v. v.items) buffers place b [] within) ∙ ap (λ image. block image place) is

-- so many buffers of zeros
pub zeros_count : (blocks size : ℕ) (buffers : List (Vec ℕ Global)) → image_of buffers ≡ replicate blocks (replicate size 0) → length buffers ≡ blocks
zeros_count blocks size buffers are = sym (length-map buffers (λ b. b.items)) ∙ ap length are ∙ length-replicate blocks (replicate size 0)

pub zeros_shape : (blocks size : ℕ) (buffers : List (Vec ℕ Global)) → image_of buffers ≡ replicate blocks (replicate size 0) → HasShape (length buffers) size (image_of buffers)
zeros_shape blocks size buffers are = rw (zeros_count blocks size buffers are, are) (record {
  blocks = length-replicate blocks (replicate size 0);
  bytes = λ place inside. ap length (get_or-replicate blocks place (replicate size 0) [] inside) ∙ length-replicate size 0;
})

-- the newest content has the disk's shape
newest_shape : (h : DiskHistory) → IsHistorySound h → HasShape h.count (bytes_of h.size) (newest_of h)
newest_shape h sound = replay_shape h.count (bytes_of h.size) h.first h.steps sound.shape sound.whole

module _ {a : Inside} {h : DiskHistory} (kept : IsHistoryKept a) (view : history_of a ≡ h) where
  pub kept_sound : IsHistorySound h
  kept_sound = subst IsHistorySound view kept.sound

  pub kept_count : vec_len a.newest ≡ h.count
  kept_count =
      a.newest.ok.0 ∙ buffers_count (history_of a).count (bytes_of a.size) (newest_of (history_of a)) a.newest.items (newest_shape (history_of a) kept.sound) kept.newest
      ∙ ap (λ g. g.count) view

  pub kept_size : (place : ℕ) → place < h.count → length (block (newest_of h) place) ≡ bytes_of h.size
  kept_size = (newest_shape h kept_sound).bytes

  pub kept_buffer : (place : ℕ) (b : Vec ℕ Global) → place < h.count → b ≡ get_or a.newest.items place b → b.items ≡ block (newest_of h) place
  kept_buffer place b inside here =
      buffer_at h.count (bytes_of h.size) (newest_of h) a.newest.items place b (newest_shape h kept_sound) (kept.newest ∙ ap newest_of view) inside here

-- a write kept in both lists
pub kept_written : {a : Inside} {h : DiskHistory} → IsHistoryKept a → history_of a ≡ h → (place : ℕ) (bytes : List ℕ) (new : Vec ℕ Global) (calls : Vec Call Global) →
    place < h.count → length bytes ≡ bytes_of h.size → new.items ≡ bytes → steps_of calls.items ≡ Wrote place bytes ∷ steps_of a.calls.items →
    IsHistoryKept (record a { newest = with_item a.newest place new; calls = calls })
kept_written {a} kept view place bytes new calls inside whole is noted = record {
  sound = record {
    shape = kept.sound.shape;
    whole = rw noted (subst (λ n. place < n) (sym (ap (λ g. g.count) view)) inside, whole ∙ sym (ap (λ g. bytes_of g.size) view), kept.sound.whole);
  };
  newest = rw noted (map-set (λ b. b.items) a.newest.items place new ∙ ap (λ b. set (image_of a.newest.items) place b) is ∙ ap (λ image. set image place bytes) kept.newest);
}

-- a sync leaves one of the images that were there
pub goes_synced : (old new : DiskHistory) → IsHistorySound old → new.first ≡ old.first → new.steps ≡ Synced ∷ old.steps →
    Goes (λ h. MayLeave h.first h.steps) (λ h. length h.steps) (λ h. LeftSince h.first h.steps) ChangesNothing old new
goes_synced old new sound first steps = rw (first, steps) (record {
  crash = λ c now. (replay old.first old.steps, newest_stays old.count (bytes_of old.size) old.first old.steps sound.shape sound.whole, now);
  later = omega arith;
  nothing_else = λ t c earlier left. ⊎_elim (λ now. inr now.1) inl left;
  keeps = λ t c earlier left. inr left;
})

-- a write that is made
pub torn_written : {first : Image} {steps : List HistoryStep} (old : DiskHistory) (place : ℕ) (bytes : List ℕ) → IsHistorySound old → place < old.count →
    length bytes ≡ bytes_of old.size → first ≡ old.first → steps ≡ Wrote place bytes ∷ old.steps → Torn place bytes (newest_of old) (replay first steps)
torn_written old place bytes sound inside whole same_first more =
    let shape = newest_shape old sound in
    rw (same_first, more) (torn_whole (newest_of old) place bytes (omega (arith, shape.blocks, inside)) (whole ∙ sym (shape.bytes place inside)))

pub goes_written : (old new : DiskHistory) (place : ℕ) (bytes : List ℕ) → new.first ≡ old.first → new.steps ≡ Wrote place bytes ∷ old.steps →
    Goes (λ h. MayLeave h.first h.steps) (λ h. length h.steps) (λ h. LeftSince h.first h.steps) (Torn place bytes) old new
goes_written old new place bytes first steps = rw (first, steps) (record {
  crash = λ c now. now;
  later = omega arith;
  nothing_else = λ t c earlier left. ⊎_elim (λ now. inr now.1) inl left;
  keeps = λ t c earlier left. inr left;
})

-- a write that is not made leaves all as it was
pub goes_refused : (old new : DiskHistory) (place : ℕ) (bytes : List ℕ) → new.first ≡ old.first → new.steps ≡ old.steps →
    Goes (λ h. MayLeave h.first h.steps) (λ h. length h.steps) (λ h. LeftSince h.first h.steps) (Torn place bytes) old new
goes_refused old new place bytes first steps = rw (first, steps) (record {
  crash = λ c now. (c, now, torn_same c place bytes);
  later = omega arith;
  nothing_else = λ t c earlier left. inl left;
  keeps = λ t c earlier left. left;
})
