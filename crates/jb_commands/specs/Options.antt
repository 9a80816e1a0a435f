-- When the options of `jb format` are good, and which image they ask for.
use Rattle.std.specs.Prelude.{false, ◌≡◌, ◌+◌, ◌*◌, ◌^◌, ◌<◌, ◌≤◌, ◌⊎◌, ℕ, length, Ok}
use Rattle.std.specs.List.{AllPass}
use Rattle.hex.specs.Hex.{decode_of, is_hex_digit}
use Rattle.jb_args.specs.declared.option_name.OptionName.{OptionName}
use Rattle.jb_args.specs.declared.option_name.OptionName.TheVariants.{Bs, Homes, Journal, Max, Uuid}
use Rattle.jb_block.specs.Size.{bytes_of, IsBlockSize}
use Rattle.jb_block.specs.Width.{is_wide}
use Rattle.jb_args.specs.PlainCommand.{GivenOptions}
use Rattle.jb_image.specs.Create.{is_sparse}
use Rattle.jb_image.specs.declared.image_geometry.ImageGeometry.{ImageGeometry}

-- as many blocks as a journal may have
abbrev pub IsJournalLength : ℕ → Type 0
IsJournalLength blocks = (9 ≤ blocks) × (blocks < 2 ^ 31)

-- a length that a file may have, with home blocks that numbers of the width name: of 32 bits, or with `--wide` of 64
abbrev pub IsFileLength : GivenOptions → Type 0
IsFileLength o = ((o.journal + o.homes) * o.bs < 2 ^ 63) × (o.wide ≡ false → o.homes ≤ 2 ^ 32)

-- one of the three block sizes, numbers that fit their fields, a UUID of 32 hexadecimal digits, and a length that a
-- file may have
pub record AreGood (o : GivenOptions) : Type 0 where
  pub size : IsBlockSize o.bs
  pub journal : o.journal < 2 ^ 32
  pub max : o.max < 2 ^ 32
  pub uuid : (length o.uuid ≡ 32) × AllPass is_hex_digit o.uuid
  pub len : IsFileLength o

-- the second option is bad and it is the first one, or it is good and this holds
abbrev pub IsFirst : OptionName → OptionName → Type 0 → Type 0 → Type 0
IsFirst told option Good Later = ((told ≡ option) × (Good → ⊥)) ⊎ (Good × Later)

-- this option is the first that is bad; --homes stands for the length
abbrev pub IsFirstBad : GivenOptions → OptionName → Type 0
IsFirstBad o told =
    IsFirst told Bs (IsBlockSize o.bs)
    (IsFirst told Journal (o.journal < 2 ^ 32)
    (IsFirst told Max (o.max < 2 ^ 32)
    (IsFirst told Uuid ((length o.uuid ≡ 32) × AllPass is_hex_digit o.uuid)
    (IsFirst told Homes (IsFileLength o) ⊥))))

-- the image that the options ask for
pub record IsAskedBy (o : GivenOptions) (g : ImageGeometry) : Type 0 where
  pub size : bytes_of g.block_size ≡ o.bs
  pub journal : g.journal ≡ o.journal
  pub homes : g.homes ≡ o.homes
  pub max : g.max_transaction ≡ o.max
  pub uuid : decode_of o.uuid ≡ Ok g.uuid
  pub width : is_wide g.width ≡ o.wide
  pub allocation : is_sparse g.allocation ≡ o.sparse
