-- What `jb format` reports of a journal that was made.
use Rattle.std.specs.Prelude.{ℕ, true, List, [], ◌∷◌, codes}
use Rattle.jb_block.specs.Size.{bytes_of}
use Rattle.jb_block.specs.Width.{is_wide}
use Rattle.jb_image.specs.declared.image_geometry.ImageGeometry.{ImageGeometry}
use Rattle.jb_json.specs.Facts.{Fact, Counted, Marked}
use Rattle.jb_super.specs.Features.{of_width}
use Rattle.jb_super.specs.Geometry.{limit_of}
use Rattle.jb_super.specs.Superblock.{new_super}

-- what is reported of a new journal with this limit
abbrev pub formatted_facts : ℕ → List Fact
formatted_facts limit = Marked (codes "formatted") true ∷ Counted (codes "limit") limit ∷ []

-- the most log blocks of a transaction of such a journal
abbrev pub new_limit_of : ImageGeometry → ℕ
new_limit_of g =
    limit_of (of_width (is_wide g.width) (new_super (bytes_of g.block_size) g.journal g.max_transaction g.uuid))
