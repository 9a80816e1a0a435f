-- What the text of a queue says, step by step: its lines from the first on, and the words of a line from the left.
use Rattle.std.specs.Prelude.{◌≡◌, ℕ, ◌+◌, ◌≤◌, ◌==◌, ◌&&◌, nat_lt, nat_le, Bool, if◌then◌else◌, List, [], ◌∷◌, ◌++◌}
use Rattle.std.specs.Prelude.{length, drop, codes, Option, Some, None, Result, Ok, Err, IsOk}
use Rattle.std.specs.Option.{option_and_then}
use Rattle.std.specs.Str.{bytes_eq}
use Rattle.std.specs.FinMap as map
use Rattle.hex.specs.Hex.{decode_of}
use Rattle.hex.specs.declared.error.FromHexError.{FromHexError}
use Rattle.jb_block.specs.declared.size.BlockSize.{BlockSize}
use Rattle.jb_block.specs.declared.size.BlockSize.TheVariants.{OneKib, TwoKib, FourKib}
use Rattle.jb_block.specs.declared.width.Width.{Width}
use Rattle.jb_block.specs.declared.width.Width.TheVariants.{Narrow, Wide}
use Rattle.jb_block.specs.Size.{bytes_of}
use Rattle.jb_queue.specs.declared.fault.Cause.{Cause}
use Rattle.jb_queue.specs.declared.fault.Cause.TheVariants.{BlockSizeLine, LimitLine, HandleLine, OpWord, DataWord}
use Rattle.jb_queue.specs.declared.fault.Cause.TheVariants.{Memory}
use Rattle.jb_queue.specs.declared.fault.QueueFault.{QueueFault}
use Rattle.jb_handle.specs.declared.stopped.Stopped.{Stopped}
use Rattle.jb_handle.specs.declared.word.Word.{Word}
use Rattle.jb_handle.specs.declared.word.Word.TheVariants.{Copy, Free}
use Rattle.jb_block.specs.Fields.{padded}
use Rattle.jb_text.specs.Parts.{◌>>=◌, before, onward, lines, words, behind_word, read_first, and_then, number_of}
use Rattle.jb_handle.specs.Word.{WordMap}

-- a value, or the cause of a fault in its place
abbrev pub or_cause : {A : Type 0} → Cause → Option A → Result A Cause
or_cause cause None = Err cause
or_cause cause (Some x) = Ok x

-- a cause with the line at which it was met
abbrev pub at_line : {A : Type 0} → ℕ → Result A Cause → Result A QueueFault
at_line at (Ok x) = Ok x
at_line at (Err cause) = Err (record { line = at; cause = cause })

-- a number where a test holds of it
abbrev pub where_true : Bool → ℕ → Option ℕ
where_true test n = if test then Some n else None

-- the home block that digits name: any number of 64 bits, also where the journal's are of 32
abbrev pub home_named : List ℕ → Result ℕ Cause
home_named digits = or_cause OpWord (number_of digits)

-- a block that begins with decoded bytes: one at least, and no more than a block has
abbrev pub decoded_block : ℕ → Result (List ℕ) FromHexError → Result (List ℕ) Cause
decoded_block size (Ok bytes) =
    if nat_lt 0 (length bytes) && nat_le (length bytes) size then Ok (padded size bytes) else Err DataWord
decoded_block size (Err fault) = Err DataWord

-- the block that a word writes, from its `=` on; zeros where there is none
abbrev pub data_in_word : ℕ → List ℕ → Result (List ℕ) Cause
data_in_word size [] = Ok (padded size [])
data_in_word size (equals ∷ digits) = decoded_block size (decode_of digits)

-- a home block, and the word that is left at it: after a `w` (119) a copy, with its bytes from `=` (61) on, and
-- after an `r` (114) the block is free
abbrev pub op_of : ℕ → List ℕ → Result (ℕ × Word) Cause
op_of size [] = Err OpWord
op_of size (letter ∷ rest) =
    if letter == 119 then (do
      home ← home_named (before 61 rest)
      bytes ← data_in_word size (onward 61 rest)
      Ok (home, Copy bytes))
    else if letter == 114 then (do
      home ← home_named rest
      Ok (home, Free))
    else Err OpWord

-- the words of a handle, after those that it has: the last one on a block counts
unfoldable pub after_ops : ℕ → WordMap → List (List ℕ) → Result WordMap Cause
after_ops size had [] = Ok had
after_ops size had (text ∷ texts) = do
  op ← op_of size text
  after_ops size (map.insert had op.0 op.1) texts

-- the words of a handle, from after the `h` of its line on
abbrev pub behind_h : ℕ → List ℕ → Result WordMap Cause
behind_h size [] = Ok map.empty
behind_h size (b ∷ rest) = if b == 32 then after_ops size map.empty (words rest) else Err HandleLine

-- the words of a handle, from its line
abbrev pub handle_of : ℕ → List ℕ → Result WordMap Cause
handle_of size [] = Err HandleLine
handle_of size (b ∷ rest) = if b == 104 then behind_h size rest else Err HandleLine

-- the handles of a queue, after those of the lines before; a handle's ticket is its place, and its line the third
-- one from there
unfoldable pub after_lines : ℕ → List Stopped → List (List ℕ) → Result (List Stopped) QueueFault
after_lines size had [] = Ok had
after_lines size had (line ∷ more) = do
  words ← at_line (length had + 3) (handle_of size line)
  after_lines size (had ++ record { ticket = length had; words = words } ∷ []) more

-- the handles that were read; none where there is a fault
abbrev pub handles_or_none : Result (List Stopped) QueueFault → List Stopped
handles_or_none (Ok handles) = handles
handles_or_none (Err fault) = []

-- the handles of a queue text, whose first is on its third line
abbrev pub handles_of_text : ℕ → List ℕ → List Stopped
handles_of_text size text = handles_or_none (after_lines size [] (drop 2 (lines text)))

-- there are this many handles
abbrev pub IsCount : Result (List Stopped) QueueFault → ℕ → Type 0
IsCount (Ok handles) count = count ≡ length handles
IsCount (Err fault) count = ⊥

-- the size of a block in bytes
abbrev pub size_of_bytes : ℕ → Option BlockSize
size_of_bytes n =
    if n == 1024 then Some OneKib else if n == 2048 then Some TwoKib else if n == 4096 then Some FourKib else None

-- the number after a word that a line begins with
abbrev pub number_behind_word : List ℕ → List ℕ → Option ℕ
number_behind_word word line = option_and_then number_of (behind_word word line)

-- the width after a block size: 32 bits where nothing follows
abbrev pub width_behind : List ℕ → Option Width
width_behind [] = Some Narrow
width_behind (b ∷ bs) = if bytes_eq (b ∷ bs) (codes " wide") then Some Wide else None

-- a block size and a width, where there are both
abbrev pub both_of : Option BlockSize → Option Width → Option (BlockSize × Width)
both_of None width = None
both_of (Some size) None = None
both_of (Some size) (Some width) = Some (size, width)

-- what follows `bs `: the number up to the first space (32), and the width from there on
abbrev pub format_behind : List ℕ → Option (BlockSize × Width)
format_behind text =
    both_of (option_and_then size_of_bytes (number_of (before 32 text))) (width_behind (onward 32 text))

-- the block size and the width of block numbers that a line gives
abbrev pub format_of : List ℕ → Option (BlockSize × Width)
format_of line = option_and_then format_behind (behind_word (codes "bs ") line)

-- the limit that a line gives: the most log blocks that a group may take
abbrev pub limit_in_line : List ℕ → Option ℕ
limit_in_line line =
    and_then (number_behind_word (codes "limit ") line)
    (λ limit. where_true (nat_le 3 limit && nat_le limit 2147483646) limit)

-- a queue as a value
pub record Queue : Type 0 where
  pub size : BlockSize
  pub limit : ℕ
  pub width : Width
  pub handles : List Stopped

-- the queue that a text says, or its first fault
abbrev pub queue_of : List ℕ → Result Queue QueueFault
queue_of text = do
  format ← at_line 1 (or_cause BlockSizeLine (read_first format_of (lines text)))
  limit ← at_line 2 (or_cause LimitLine (read_first limit_in_line format.1))
  handles ← after_lines (bytes_of format.0.0) [] limit.1
  Ok (record { size = format.0.0; limit = limit.0; width = format.0.1; handles = handles })

-- what a reader gives: the definition's answer, unless memory ran out
abbrev pub Gives : {A : Type 0} → Result A Cause → Result A Cause → Type 0
Gives (Ok x) read = read ≡ Ok x
Gives (Err Memory) read = Unit {0}
Gives (Err cause) read = read ≡ Err cause

-- what a reader gives that keeps nothing: the definition has an answer, or this fault, unless memory ran out
abbrev pub JudgesText : {A : Type 0} → Result Unit Cause → Result A Cause → Type 0
JudgesText (Ok done) read = IsOk read
JudgesText {A} (Err cause) read = Gives {A = A} (Err cause) read

-- the first of some words, if there is one, is of the form
abbrev pub FirstReads : ℕ → List (List ℕ) → Type 0
FirstReads size [] = Unit {0}
FirstReads size (text ∷ texts) = IsOk (op_of size text)

-- after the `h` of a line comes nothing, or a space and a first word of the form
abbrev pub BeginsBehind : ℕ → List ℕ → Type 0
BeginsBehind size [] = Unit {0}
BeginsBehind size (b ∷ rest) = (b ≡ 32) × FirstReads size (words rest)

-- what is judged of a line before anything grows for it: that it is a handle's, and its first word
abbrev pub BeginsHandle : ℕ → List ℕ → Type 0
BeginsHandle size [] = ⊥
BeginsHandle size (b ∷ rest) = (b ≡ 104) × BeginsBehind size rest

-- memory may run out at a line of the handles', the first of which is line 3: it begins as a handle's
pub record MayGrow (size : ℕ) (all : List (List ℕ)) (at : ℕ) : Type 0 where
  pub earlier : List (List ℕ)
  pub line : List ℕ
  pub later : List (List ℕ)
  pub parts : all ≡ earlier ++ line ∷ later
  pub here : at ≡ length earlier + 3
  pub begins : BeginsHandle size line

-- the same of a text, whose first two lines are of the form
pub record MayGrowAt (text : List ℕ) (at : ℕ) : Type 0 where
  pub format : BlockSize × Width
  pub limit : ℕ
  pub second : List (List ℕ)
  pub third : List (List ℕ)
  pub formatted : read_first format_of (lines text) ≡ Some (format, second)
  pub limited : read_first limit_in_line second ≡ Some (limit, third)
  pub grows : MayGrow (bytes_of format.0) third at

-- a fault is the first one of a text; `Memory` at a line says that no line before it has a fault
abbrev pub ReportsBy : {A : Type 0} → Result A QueueFault → ℕ → Cause → Type 0
ReportsBy read at Memory = (other : QueueFault) → read ≡ Err other → at ≤ other.line
ReportsBy read at cause = read ≡ Err (record { line = at; cause = cause })

-- a fault with its line and cause is the first one of a text (`ReportsBy`)
abbrev pub Reports : {A : Type 0} → Result A QueueFault → QueueFault → Type 0
Reports read fault = ReportsBy read fault.line fault.cause
