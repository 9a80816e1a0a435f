use Rattle.std.proofs.Common.{◌≡◌, length, ◌∙◌, sym, ap}
use Rattle.std.proofs.lemmas.List.{length-map}
use Rattle.jb_disk.specs.Calls.{image_of}
use Rattle.jb_disk.proofs.sector.synced_image.Goals as goal

pub replay_calls-requires : goal.replay_calls-requires
replay_calls-requires c =
    let image = ap image_of c.deref_mut.ensures.value ∙ c.in_ok-image.ensures.copy in
    let count : length c.deref_mut.result.now ≡ length c.args.first.now
    = sym (length-map c.deref_mut.result.now (λ b. b.items)) ∙ ap length image ∙ length-map c.args.first.now (λ b. b.items) in (
      c.requires.0,
      rw (count, image) c.requires.1,
      rw count c.requires.2,
    )
