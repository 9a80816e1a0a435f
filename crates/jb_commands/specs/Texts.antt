-- The text after a name, and why there is none.
use Rattle.std.specs.Prelude.{◌≡◌, ◌<◌, ◌≤◌, ℕ, List, Option, None, IfSome, codes, if◌then◌else◌, length}
use Rattle.std.specs.Str.{bytes_eq}
use Rattle.jb_commands.specs.Limits.{text_limit}
use Rattle.jb_commands.specs.declared.fault.CommandFault.{CommandFault}
use Rattle.jb_commands.specs.declared.fault.CommandFault.TheVariants.{CannotRead, TooLong, Memory}

-- the bytes after the name of a text, where they are known: `-` is standard input, and of a file none are
abbrev pub known_behind : List ℕ → Option (List ℕ) → Option (List ℕ)
known_behind name input = if bytes_eq name (codes "-") then input else None

-- the text is all that was to be read, and within a limit
abbrev pub IsTextWithin : ℕ → Option (List ℕ) → List ℕ → Type 0
IsTextWithin limit known text = IfSome known (λ bytes. text ≡ bytes) × (length text ≤ limit)

-- these are all bytes of a queue text, at most as many as such a text may have
abbrev pub IsText : Option (List ℕ) → List ℕ → Type 0
IsText known text = IsTextWithin text_limit known text

-- the text after this name could not be had: it has more bytes than a limit, or the reading or the memory failed
abbrev pub HasNoTextWithin : ℕ → List ℕ → Option (List ℕ) → CommandFault → Type 0
HasNoTextWithin limit name known (TooLong told) = (told.now ≡ name) × IfSome known (λ bytes. limit < length bytes)
HasNoTextWithin limit name known (CannotRead told code) = told.now ≡ name
HasNoTextWithin limit name known Memory = Unit {0}
HasNoTextWithin limit name known _ = ⊥

-- a queue text could not be had: it has more bytes than such a text may have, or the reading or the memory failed
abbrev pub HasNoText : List ℕ → Option (List ℕ) → CommandFault → Type 0
HasNoText name known fault = HasNoTextWithin text_limit name known fault
