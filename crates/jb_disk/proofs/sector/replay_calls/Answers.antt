use Rattle.std.proofs.Common.{◌≡◌, ◌<◌, length, arith, sym, ◌∙◌, ap, vec_len}
use Rattle.jb_disk.specs.Calls.{image_of}
use Rattle.jb_disk.specs.History.{replay}
use Rattle.jb_disk.proofs.MemoryCalls.{buffer_at}
use Rattle.jb_disk.proofs.ReplayCalls.{write_at, replaying_shape, replay-write, steps_of-more}
use Rattle.jb_disk.proofs.sector.replay_calls.Goals.{In-Write, in-Write, in_default}
use Rattle.jb_disk.proofs.sector.replay_calls.Goals as goal

-- the place and length of a write
at : (c : In-Write) → (c.in-Write.place < length c.args.image.now) × (length c.in-Write.bytes.items ≡ c.requires.0)
at c = write_at _ _ c.args.calls.now c.loop-call.call-index c.requires.2 c.loop-call-test.true c.call-item.is c.in-Write.is

pub offset_bounds-image-place : goal.offset_bounds-image-place
offset_bounds-image-place c =
    let inside : c.in-Write.place < length c.loop-call.image = omega (arith, (at (goal.at.offset_bounds-image-place c).In-Write).0, c.loop-call.auto.image) in
    omega (arith, inside)

pub bounds-image-place : goal.bounds-image-place
bounds-image-place c = omega (arith, (at (goal.at.bounds-image-place c).In-Write).0, c.loop-call.auto.image)

pub copy_from_slice-requires : goal.copy_from_slice-requires
copy_from_slice-requires c =
    let here = at (goal.at.copy_from_slice-requires c).In-Write in
    let shape = replaying_shape (length c.args.image.now) c.requires.0 (image_of c.args.image.now) c.args.calls.now c.loop-call.call-index c.requires.1 c.requires.2 in
    let buffer = buffer_at _ _ _ c.loop-call.image c.in-Write.place c.index-image-place.result shape c.loop-call.invariant here.0 c.index-image-place.is in
    ap vec_len (sym c.index-image-place.is) ∙ c.index-image-place.result.ok.0 ∙ ap length buffer ∙ shape.bytes c.in-Write.place here.0 ∙ sym here.1 ∙ sym (ap length c.deref.ensures.value)

pub loop-call-preserved : goal.loop-call-preserved
loop-call-preserved c = elim c.match-call.branch [
  | in-Write w ↦
      rw w.image-is (replay-write (image_of c.args.image.now) c.args.calls.now c.loop-call.call-index w.in-Write.place w.in-Write.bytes c.loop-call.image w.copy_from_slice.new.self
      c.loop-call-test.true c.call-item.is w.in-Write.is c.loop-call.invariant (w.copy_from_slice.ensures.items ∙ w.deref.ensures.value))
  | in_default w ↦
      rw w.image-is (c.loop-call.invariant ∙ sym (ap (replay (image_of c.args.image.now)) (steps_of-more c.args.calls.now c.loop-call.call-index c.loop-call-test.true c.call-item.is w.in_default.is)))
]
