-- Values of the examples on what calls change: a handle that frees a home, and a small image.
use Rattle.std.specs.Prelude.{◌≡◌, ℕ, ◌+◌, List, [], ◌∷◌, ◌++◌, replicate}
use Rattle.std.specs.FinMap as homes
use Rattle.jb_disk.specs.Image.{Image}
use Rattle.jb_handle.specs.declared.stopped.Stopped.{Stopped}
use Rattle.jb_handle.specs.declared.word.Word.TheVariants.{Free}
use Rattle.jb_deck.specs.Deck.{OpenDeck}

-- the handle with this ticket that freed this home
abbrev pub freed_one : ℕ → ℕ → Stopped
freed_one ticket home = record { ticket = ticket; words = homes.from_sorted ((home, Free) ∷ []) }

-- five blocks: the first has this byte after eighty zeros, the second and the last hold one byte each
abbrev pub five_blocks : ℕ → ℕ → List ℕ → List ℕ → ℕ → Image
five_blocks rest one two three last =
    (replicate 80 0 ++ rest ∷ []) ∷ (one ∷ []) ∷ two ∷ three ∷ (last ∷ []) ∷ []

-- a deck whose log begins at block 2, and behind whose last home is block 4
pub record HasHomesAt (d : OpenDeck Image) : Type 0 where
  pub first : d.log.sb.first ≡ 2
  pub past : d.log.sb.maxlen + d.shape.homes ≡ 4
