-- A file that was asked its length and nothing else.
use Rattle.std.proofs.Common.{◌≡◌, ℕ, [], ◌∷◌, length, ◌∙◌, ap}
use Rattle.jb_disk.specs.Events.{Measured}
use Rattle.jb_disk.specs.File.{FileLeaves, IsHonest, content_of, events_of}
use Rattle.jb_disk.specs.Image.{Image}
use Rattle.jb_disk.specs.declared.file.FileDisk.{FileDisk}
use Rattle.jb_disk.specs.declared.start.Start.{Ghosts}

module _ {S : Type 0} {start : Ghosts S} (f : FileDisk S start) (len : ℕ) (asked : events_of f ≡ Measured len ∷ []) where
  -- a crash leaves what it held
  pub opened-leaves : (c : Image) → FileLeaves f c → c ≡ start.content 0
  opened-leaves c left = rw asked at left

  -- it holds that still
  pub opened-holds : IsHonest f → content_of f ≡ start.content 0
  opened-holds honest = ap (λ events. start.content (length events)) asked ∙ (rw asked at honest).1.1.0
