-- Stretches of the bytes of a file or a device, and whether two have a byte in common.
use Rattle.std.specs.Prelude.{ℕ, ◌+◌, ◌-◌, ◌^◌, ◌<◌, ◌≤◌, min, ◌==◌, if◌then◌else◌}
use Rattle.jb_image.specs.declared.stretch.ByteStretch.{ByteStretch}

-- the last place that 64 bits give; a stretch that ends there has no end
abbrev pub no_end : ℕ
no_end = 2 ^ 64 - 1

-- all bytes
abbrev pub all_bytes : ByteStretch
all_bytes = record { from = 0; end = no_end }

-- this many bytes from a place on; all from there on, where the length is 0
abbrev pub bytes_from : ℕ → ℕ → ByteStretch
bytes_from from len = record { from = from; end = if len == 0 then no_end else min (from + len) no_end }

-- a stretch of a device, which is itself a stretch of something below it, as one of what is below
abbrev pub placed_in : ByteStretch → ByteStretch → ByteStretch
placed_in of held =
    record { from = min (held.from + of.from) no_end; end = min (min (held.from + of.end) no_end) held.end }

-- a byte is in a stretch
pub record IsIn (stretch : ByteStretch) (at : ℕ) : Type 0 where
  pub from : stretch.from ≤ at
  pub end : at < stretch.end

-- two stretches have a byte in common
abbrev pub Meet : ByteStretch → ByteStretch → Type 0
Meet one other = (at : ℕ) × IsIn one at × IsIn other at
