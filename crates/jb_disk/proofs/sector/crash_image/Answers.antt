use Rattle.std.proofs.Common.{◌≡◌, ◌<◌, ◌*◌, ◌/◌, ◌++◌, ℕ, length, take, drop, refl, sym, ◌∙◌, ap, arith}
use Rattle.jb_block.specs.Size.{bytes_of}
use Rattle.jb_disk.specs.Calls.{steps_of, image_of}
use Rattle.jb_disk.specs.Image.{HasShape}
use Rattle.jb_disk.specs.CrashWrites.{table_of, writes_at}
use Rattle.jb_disk.specs.Versions.{written}
use Rattle.jb_disk.proofs.MemoryCalls.{buffers_count}
use Rattle.std.proofs.lemmas.List.{take_at, take_rest}
use Rattle.jb_disk.proofs.CrashImage.{whole_sectors, written_whole, chosen_by_history}
use Rattle.jb_block.proofs.Refusals.{on-refusal}
use Rattle.jb_disk.proofs.ReplayCalls.{replaying_shape, whole-split}
use Rattle.jb_disk.proofs.sector.crash_image.Goals.{After-choose, After-deref, In_ok-image}
use Rattle.jb_disk.proofs.sector.crash_image.Goals as goal

-- the buffers of the last sync have the disk's shape
shape : (c : In_ok-image) → HasShape (length c.args.first.now) (bytes_of c.args.size) (image_of c.in_ok-image.image.items)
shape c =
    rw c.in_ok-image.ensures.synced
    (replaying_shape (length c.args.first.now) (bytes_of c.args.size) (image_of c.args.first.now) c.args.calls.now c.until_sync-synced.result c.requires.shape c.requires.whole)

-- they are as many as blocks
items : (c : In_ok-image) → length c.in_ok-image.image.items ≡ length c.args.first.now
items c = buffers_count _ _ _ c.in_ok-image.image.items (shape c) refl

-- the table has what was written since
each : (c : After-deref) (place : ℕ) → place < c.len.result → writes_at (table_of c.deref.result.now) place ≡ written (steps_of c.args.calls.now) place
each c place inside =
    ap (λ t. writes_at (table_of t) place) c.deref.ensures.value ∙ c.in_ok-writes.ensures.writes place inside
    ∙ ap (λ cs. written (steps_of cs) place) (take_rest c.args.calls.now c.until_sync-synced.result) ∙ sym (c.until_sync-synced.ensures.behind place)

-- the buffers after the choice
back : (c : After-choose) → take c.in_ok-image.image.len (c.choose.new.image ++ drop (length c.choose.new.image) c.in_ok-image.image.items) ≡ c.choose.new.image
back c = take_at c.choose.new.image _ c.in_ok-image.image.len (c.choose.auto.image ∙ ap length c.deref_mut.ensures.value ∙ sym c.in_ok-image.image.ok.0)

pub synced_image-requires : goal.synced_image-requires
synced_image-requires c =
    (bytes_of c.args.size, c.requires.shape, (whole-split (length c.args.first.now) (bytes_of c.args.size) c.args.calls.now c.until_sync-synced.result c.requires.whole).1)

pub writes_by_place-requires-clause-whole : goal.writes_by_place-requires-clause-whole
writes_by_place-requires-clause-whole c = (
  bytes_of c.args.size,
  rw (c.len.ensures ∙ c.in_ok-image.image.ok.0 ∙ items (goal.at.writes_by_place-requires-clause-whole c).In_ok-image, take_rest c.args.calls.now c.until_sync-synced.result)
      (whole-split (length c.args.first.now) (bytes_of c.args.size) c.args.calls.now c.until_sync-synced.result c.requires.whole).0,
)

pub returns-in_err-writes-clause-grows : goal.returns-in_err-writes-clause-grows
returns-in_err-writes-clause-grows c =
    let count : c.len.result ≡ length c.args.first.now = c.len.ensures ∙ c.in_ok-image.image.ok.0 ∙ items (goal.at.returns-in_err-writes-clause-grows c).In_ok-image in
    on-refusal c.from_residual-in_err-writes.result (omega (arith, count, c.in_err-writes.ensures.grows))

pub choose-requires-clause-shape : goal.choose-requires-clause-shape
choose-requires-clause-shape c =
    let at = (goal.at.choose-requires-clause-shape c).In_ok-image in
    rw (c.deref_mut.ensures.value, items at, c.bytes.ensures.value, sym (whole_sectors c.args.size)) (shape at)

pub choose-requires-clause-whole : goal.choose-requires-clause-whole
choose-requires-clause-whole c = λ place inside.
    let count : c.len.result ≡ length c.deref_mut.result.now = c.len.ensures ∙ c.in_ok-image.image.ok.0 ∙ ap length (sym c.deref_mut.ensures.value) in
    let size : 512 * (c.bytes.result / 512) ≡ bytes_of c.args.size = ap (λ b. 512 * (b / 512)) c.bytes.ensures.value ∙ sym (whole_sectors c.args.size) in
    let at = (goal.at.choose-requires-clause-whole c).After-deref in
    rw (size, each at place (omega (arith, inside, count))) (written_whole (length c.args.first.now) (bytes_of c.args.size) (steps_of c.args.calls.now) place c.requires.whole)

pub returns-clause-count : goal.returns-clause-count
returns-clause-count c =
    let at = goal.at.returns-clause-count c in
    ap length (back at.After-choose) ∙ c.choose.auto.image ∙ ap length c.deref_mut.ensures.value ∙ items at.In_ok-image

pub returns-clause-shape : goal.returns-clause-shape
returns-clause-shape c =
    let at = goal.at.returns-clause-shape c in
    let size : 512 * (c.bytes.result / 512) ≡ bytes_of c.args.size = ap (λ b. 512 * (b / 512)) c.bytes.ensures.value ∙ sym (whole_sectors c.args.size) in
    rw (back at.After-choose) (rw (ap length c.deref_mut.ensures.value ∙ items at.In_ok-image, size) at c.choose.ensures.shape)

pub returns-clause-chosen : goal.returns-clause-chosen
returns-clause-chosen c =
    let at = goal.at.returns-clause-chosen c in
    let count : length c.deref_mut.result.now ≡ length c.args.first.now = ap length c.deref_mut.ensures.value ∙ items at.In_ok-image in
    let len : c.len.result ≡ length c.args.first.now = c.len.ensures ∙ c.in_ok-image.image.ok.0 ∙ items at.In_ok-image in
    rw (back at.After-choose) (chosen_by_history _ _ (image_of c.args.first.now) _ _ (steps_of c.args.calls.now) (table_of c.deref.result.now) _
    (c.until_sync-synced.ensures.before (image_of c.args.first.now) ∙ sym (ap image_of c.deref_mut.ensures.value ∙ c.in_ok-image.ensures.synced))
    (λ p inside. each at.After-deref p (omega (arith, inside, len))) (rw (count, c.bytes.ensures.value) at c.choose.ensures.chosen))
