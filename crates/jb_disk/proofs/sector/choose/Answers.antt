use Rattle.std.proofs.Common.{◌≡◌, ◌<◌, ◌*◌, ◌+◌, ◌∷◌, length, arith, get_or, set, drop, sym, ◌∙◌, ap, subst, refl, All}
use Rattle.std.proofs.lemmas.List.{map-set, take_at}
use Rattle.std.specs.Vec.{with_items}
use Rattle.jb_disk.specs.Calls.{image_of}
use Rattle.jb_disk.specs.Image.{block, sector}
use Rattle.jb_disk.specs.CrashWrites.{table_of, bytes_of_writes, writes_at}
use Rattle.jb_disk.specs.Versions.{one_if_any, version}
use Rattle.jb_disk.proofs.MemoryCalls.{buffer_at}
use Rattle.jb_disk.proofs.ImageVersions.{AreChosen, chosen-none, chosen-some, writes_here, none_here, some_here}
use Rattle.jb_disk.proofs.sector.choose.Goals.{After-as_slice-versions, then-not-is_empty, else-not-is_empty}
use Rattle.jb_disk.proofs.sector.choose.Goals as goal

-- what was written to the block
writes : (c : After-as_slice-versions) → writes_at (table_of c.args.writes.now) c.loop-place.place ≡ bytes_of_writes c.as_slice-versions.result.now
writes c =
    let inside : c.loop-place.place < length c.args.image.now = omega (arith, c.loop-place-test.true, c.loop-place.auto.image) in
    writes_here _ c.args.writes.now c.loop-place.place c.index-writes-place.result c.requires.places inside c.index-writes-place.is ∙ ap bytes_of_writes (sym c.as_slice-versions.ensures.value)

pub mix-requires-clause-size : goal.mix-requires-clause-size
mix-requires-clause-size c =
    let inside : c.loop-place.place < length c.args.image.now = omega (arith, c.loop-place-test.true, c.loop-place.auto.image) in
    let here = buffer_at _ _ _ c.loop-place.image c.loop-place.place c.index-image-place.result c.loop-place.invariant.shape refl inside c.index-image-place.is in
    ap length (c.deref_mut.ensures.value ∙ ap (λ v. v.items) (sym c.index-image-place.is) ∙ here) ∙ c.loop-place.invariant.shape.bytes c.loop-place.place inside

pub mix-requires-clause-whole : goal.mix-requires-clause-whole
mix-requires-clause-whole c =
    let inside : c.loop-place.place < length c.args.image.now = omega (arith, c.loop-place-test.true, c.loop-place.auto.image) in
    subst (All (λ b. length b ≡ 512 * c.args.sectors)) (writes (goal.at.mix-requires-clause-whole c).After-as_slice-versions) (c.requires.whole c.loop-place.place inside)

pub loop-place-preserved : goal.loop-place-preserved
loop-place-preserved c =
    let inside : c.loop-place.place < length c.args.image.now = omega (arith, c.loop-place-test.true, c.loop-place.auto.image) in
    let written = writes (goal.at.loop-place-preserved c).After-as_slice-versions in
    let image = c.loop-place.image in
    let place = c.loop-place.place in
    elim c.if-not-is_empty.branch [
      | then-not-is_empty w ↦
          let buffer = get_or image place w.index-image-place.result in
          let here = buffer_at _ _ _ image place w.index-image-place.result c.loop-place.invariant.shape refl inside w.index-image-place.is in
          let before = w.deref_mut.ensures.value ∙ ap (λ v. v.items) (sym w.index-image-place.is) ∙ here in
          let size = w.mix.auto.block ∙ ap length before ∙ c.loop-place.invariant.shape.bytes place inside in
          let back = take_at w.mix.new.block (drop (length w.mix.new.block) buffer.items) buffer.len (w.mix.auto.block ∙ ap length w.deref_mut.ensures.value ∙ sym buffer.ok.0) in
          rw (w.image-is, w.rest-is, w.behind-rest.ensures)
          (subst (AreChosen c.args.sectors (length c.args.image.now) (place + 1) (image_of c.args.image.now) (table_of c.args.writes.now) c.args.choice.now (drop c.args.sectors c.loop-place.rest.now))
          (sym (map-set (λ v. v.items) image place (with_items buffer w.mix.new.block) ∙ ap (λ b. set (image_of image) place b) back))
          (chosen-some c.args.sectors (length c.args.image.now) place _ _ _ _ (image_of image) w.mix.new.block c.loop-place.invariant inside
          (ap one_if_any written ∙ some_here c.as_slice-versions.result.now (sym w.if-not-is_empty.ensures)) size
          (λ k less. w.mix.ensures k less
          ∙ ap (λ b. sector k (version (b ∷ bytes_of_writes c.as_slice-versions.result.now) (get_or c.loop-place.rest.now k 0))) before
          ∙ ap (λ ws. sector k (version (block (image_of image) place ∷ ws) (get_or c.loop-place.rest.now k 0))) (sym written))))
      | else-not-is_empty w ↦ rw (w.image-is, w.rest-is)
          (chosen-none _ _ place _ _ _ _ (image_of image) c.loop-place.invariant (written ∙ none_here c.as_slice-versions.result.now (sym w.if-not-is_empty.ensures)))
    ]
