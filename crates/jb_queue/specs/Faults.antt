-- The first fault of a queue text in the words of its grammar: what is of the form before it, and what is not there.
use Rattle.std.specs.Prelude.{◌≡◌, ℕ, ◌+◌, ◌^◌, ◌<◌, ◌≤◌, ◌⊎◌, List, ◌∷◌, ◌++◌, length, codes, decimal, Ok}
use Rattle.std.specs.List.{AllZip}
use Rattle.hex.specs.Hex.{decode_of}
use Rattle.jb_block.specs.declared.size.BlockSize.{BlockSize}
use Rattle.jb_block.specs.declared.width.Width.{Width}
use Rattle.jb_block.specs.Size.{bytes_of}
use Rattle.jb_handle.specs.Word.{WordMap}
use Rattle.jb_text.specs.Parts.{lines, words}
use Rattle.jb_queue.specs.declared.fault.Cause.{Cause}
use Rattle.jb_queue.specs.declared.fault.Cause.TheVariants.{BlockSizeLine, LimitLine, HandleLine, OpWord, DataWord}
use Rattle.jb_queue.specs.declared.fault.QueueFault.{QueueFault}
use Rattle.jb_queue.specs.Grammar.{HomeWord, SpellsOp, SpellsHandle, format_line}

-- up to its first `=`, a word is not `w` or `r` and the number of a home block; or it is an `r` word with an `=`
pub record IsNoOp (text : List ℕ) : Type 0 where
  pub zeros : (home : ℕ) → home < 2 ^ 64 → text ≡ codes "w" ++ decimal home → ⊥
  pub bytes : (home : ℕ) (digits : List ℕ) → home < 2 ^ 64 → text ≡ codes "w" ++ (decimal home ++ (codes "=" ++ digits))
      → ⊥
  pub free : (home : ℕ) → home < 2 ^ 64 → text ≡ codes "r" ++ decimal home → ⊥

-- what follows the `=` of a `w` word is not the hexadecimal text of one byte up to a block's
pub record HasNoData (size : ℕ) (text : List ℕ) : Type 0 where
  pub home : ℕ
  pub digits : List ℕ
  pub fits : home < 2 ^ 64
  pub spelled : text ≡ codes "w" ++ (decimal home ++ (codes "=" ++ digits))
  pub none : (bytes : List ℕ) → decode_of digits ≡ Ok bytes → 0 < length bytes → length bytes ≤ size → ⊥

-- what is wrong with a word
abbrev pub IsWrongWord : ℕ → List ℕ → Cause → Type 0
IsWrongWord size text cause = ((cause ≡ OpWord) × IsNoOp text) ⊎ ((cause ≡ DataWord) × HasNoData size text)

-- the first wrong word of a handle's words: those before it spell changes
pub record FirstWrongWord (size : ℕ) (texts : List (List ℕ)) (cause : Cause) : Type 0 where
  pub earlier : List (List ℕ)
  pub ops : List HomeWord
  pub word : List ℕ
  pub later : List (List ℕ)
  pub parts : texts ≡ earlier ++ word ∷ later
  pub each : AllZip (SpellsOp size) earlier ops
  pub wrong : IsWrongWord size word cause

-- a line that is no handle's: it is not `h`, and does not begin with `h` and a space
pub record IsNoHandle (line : List ℕ) : Type 0 where
  pub alone : line ≡ codes "h" → ⊥
  pub words : (rest : List ℕ) → line ≡ codes "h " ++ rest → ⊥

-- a handle's line with a wrong word
pub record HasWrongWord (size : ℕ) (line : List ℕ) (cause : Cause) : Type 0 where
  pub rest : List ℕ
  pub handle : line ≡ codes "h " ++ rest
  pub first : FirstWrongWord size (words rest) cause

-- what is wrong with a line from the third on
abbrev pub IsWrongLine : ℕ → List ℕ → Cause → Type 0
IsWrongLine size line cause = ((cause ≡ HandleLine) × IsNoHandle line) ⊎ HasWrongWord size line cause

-- the first wrong line of the handles' lines, the first of which has a number: those before it are handles'
pub record FirstWrongLine (size number : ℕ) (all : List (List ℕ)) (fault : QueueFault) : Type 0 where
  pub earlier : List (List ℕ)
  pub handles : List WordMap
  pub line : List ℕ
  pub later : List (List ℕ)
  pub parts : all ≡ earlier ++ line ∷ later
  pub each : AllZip (SpellsHandle size) earlier handles
  pub at : fault.line ≡ number + length earlier
  pub wrong : IsWrongLine size line fault.cause

-- the first line gives no block size and width
abbrev pub HasNoFormat : List (List ℕ) → Type 0
HasNoFormat all = (size : BlockSize) (width : Width) (more : List (List ℕ)) → all ≡ format_line size width ∷ more → ⊥

-- the first of some lines gives no limit
abbrev pub HasNoLimit : List (List ℕ) → Type 0
HasNoLimit all =
    (limit : ℕ) (more : List (List ℕ)) → 3 ≤ limit → limit ≤ 2147483646 → all ≡ (codes "limit " ++ decimal limit) ∷ more
    → ⊥

-- the first line is of the form, and the second is not
pub record LimitFault (all : List (List ℕ)) : Type 0 where
  pub size : BlockSize
  pub width : Width
  pub more : List (List ℕ)
  pub parts : all ≡ format_line size width ∷ more
  pub none : HasNoLimit more

-- the first two lines are of the form, and one of the others is not
pub record IsHandleFault (all : List (List ℕ)) (fault : QueueFault) : Type 0 where
  pub size : BlockSize
  pub width : Width
  pub limit : ℕ
  pub more : List (List ℕ)
  pub parts : all ≡ format_line size width ∷ (codes "limit " ++ decimal limit) ∷ more
  pub least : 3 ≤ limit
  pub most : limit ≤ 2147483646
  pub wrong : FirstWrongLine (bytes_of size) 3 more fault

-- the first fault of some lines
abbrev pub FirstFaultOf : List (List ℕ) → QueueFault → Type 0
FirstFaultOf all fault =
    ((fault ≡ record { line = 1; cause = BlockSizeLine }) × HasNoFormat all)
    ⊎ (((fault ≡ record { line = 2; cause = LimitLine }) × LimitFault all) ⊎ IsHandleFault all fault)

-- the first fault of a queue text
abbrev pub FirstFault : List ℕ → QueueFault → Type 0
FirstFault text fault = FirstFaultOf (lines text) fault
