-- The grammar of a queue text in its own words: which text spells which queue.
use Rattle.std.specs.Prelude.{◌≡◌, ℕ, ◌^◌, ◌<◌, ◌≤◌, ◌==◌, ◌⊎◌, if◌then◌else◌, List, [], ◌∷◌, ◌++◌, length, codes}
use Rattle.std.specs.Prelude.{decimal, Option, Some, None, Ok}
use Rattle.std.specs.List.{AllZip}
use Rattle.std.specs.Option.{option_or}
use Rattle.std.specs.FinMap as map
use Rattle.hex.specs.Hex.{decode_of}
use Rattle.jb_block.specs.declared.size.BlockSize.{BlockSize}
use Rattle.jb_block.specs.declared.width.Width.{Width}
use Rattle.jb_block.specs.declared.width.Width.TheVariants.{Narrow, Wide}
use Rattle.jb_block.specs.Size.{bytes_of}
use Rattle.jb_handle.specs.declared.word.Word.{Word}
use Rattle.jb_handle.specs.declared.word.Word.TheVariants.{Copy, Free}
use Rattle.jb_block.specs.Fields.{padded}
use Rattle.jb_text.specs.Lines.{AreLines}
use Rattle.jb_text.specs.Parts.{spaced}
use Rattle.jb_queue.specs.Queue.{Queue}
use Rattle.jb_handle.specs.Tickets.{TicketsFrom}
use Rattle.jb_handle.specs.Word.{WordMap}

-- a home block, and the word that is left at it
abbrev pub HomeWord : Type 0
HomeWord = ℕ × Word

-- `w5`: a block of zeros
abbrev pub SpellsZeros : ℕ → List ℕ → HomeWord → Type 0
SpellsZeros size text op = (text ≡ codes "w" ++ decimal op.0) × (op.1 ≡ Copy (padded size []))

-- `w5=c03b`: a block that begins with the bytes of hexadecimal digits, one byte at least
pub record SpellsBytes (size : ℕ) (text : List ℕ) (op : HomeWord) : Type 0 where
  pub digits : List ℕ
  pub bytes : List ℕ
  pub spelled : text ≡ codes "w" ++ (decimal op.0 ++ (codes "=" ++ digits))
  pub decoded : decode_of digits ≡ Ok bytes
  pub some : 0 < length bytes
  pub within : length bytes ≤ size
  pub left : op.1 ≡ Copy (padded size bytes)

-- `r5`: the block is free
abbrev pub SpellsFree : List ℕ → HomeWord → Type 0
SpellsFree text op = (text ≡ codes "r" ++ decimal op.0) × (op.1 ≡ Free)

-- a word of a handle's line
pub record SpellsOp (size : ℕ) (text : List ℕ) (op : HomeWord) : Type 0 where
  pub home : op.0 < 2 ^ 64
  pub form : SpellsZeros size text op ⊎ (SpellsBytes size text op ⊎ SpellsFree text op)

-- the word of the last op on home b
abbrev pub last_op : List HomeWord → ℕ → Option Word
last_op [] b = None
last_op (op ∷ ops) b = option_or (last_op ops b) (if op.0 == b then Some op.1 else None)

-- a handle's line: `h`, and its words, each after a space; the last one on a block counts
pub record SpellsHandle (size : ℕ) (line : List ℕ) (words : WordMap) : Type 0 where
  pub texts : List (List ℕ)
  pub ops : List HomeWord
  pub spelled : line ≡ codes "h" ++ spaced texts
  pub each : AllZip (SpellsOp size) texts ops
  pub left : (b : ℕ) → map.get words b ≡ last_op ops b

-- what follows the block size: nothing, or ` wide` where block numbers have 64 bits
abbrev pub width_text : Width → List ℕ
width_text Narrow = []
width_text Wide = codes " wide"

-- the first line: `bs 1024`, or `bs 1024 wide`
abbrev pub format_line : BlockSize → Width → List ℕ
format_line size width = codes "bs " ++ (decimal (bytes_of size) ++ width_text width)

-- a queue text: a line of the block size and the width, a line of the limit, and a line for each handle
pub record Spells (text : List ℕ) (queue : Queue) : Type 0 where
  pub handle_lines : List (List ℕ)
  pub spelled : AreLines (format_line queue.size queue.width ∷ (codes "limit " ++ decimal queue.limit) ∷ handle_lines)
      text
  pub least : 3 ≤ queue.limit
  pub most : queue.limit ≤ 2147483646
  pub each : AllZip (λ line handle. SpellsHandle (bytes_of queue.size) line handle.words) handle_lines queue.handles
  pub tickets : TicketsFrom 0 queue.handles
