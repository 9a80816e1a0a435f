-- The words that one handle leaves.
use Rattle.std.specs.Prelude.{◌≡◌, refl, ℕ, Bool, true, false, not, T, List, All, Option, Some, None}
use Rattle.std.specs.Ordering.{nat_cmp}
use Rattle.std.specs.Coded.{Coded, code_by, coded_ℕ, coded_list, coded_option}
use Rattle.std.specs.FinMap as map
use Rattle.jb_block.specs.Fields.{AreBytes}
use Rattle.jb_handle.specs.declared.word.Word.{Word}
use Rattle.jb_handle.specs.declared.word.Word.TheVariants.{Copy, Free}

-- what a handle leaves at each home that it touched
abbrev pub WordMap : Type 0
WordMap = map.FinMap nat_cmp Word

-- whether a word is a copy
abbrev pub is_copy : Word → Bool
is_copy (Copy bytes) = true
is_copy Free = false

-- whether a word is free
abbrev pub is_free : Word → Bool
is_free w = not (is_copy w)

-- the numbers of a copy are bytes
abbrev pub HasBytes : Word → Type 0
HasBytes (Copy bytes) = AreBytes bytes
HasBytes Free = Unit {0}

-- the numbers of a copy in an entry are bytes
abbrev pub EntryHasBytes : ℕ × Word → Type 0
EntryHasBytes entry = HasBytes entry.1

-- entries as words are kept: their homes rise, and the numbers of a copy are bytes
pub record AreWords (entries : List (ℕ × Word)) : Type 0 where
  pub rising : T (map.is_sorted nat_cmp entries)
  pub bytes : All EntryHasBytes entries

-- the bytes of a copy, or nothing
abbrev pub to_option : Word → Option (List ℕ)
to_option (Copy bytes) = Some bytes
to_option Free = None

-- a copy of these bytes, or free
abbrev pub from_option : Option (List ℕ) → Word
from_option (Some bytes) = Copy bytes
from_option None = Free

-- a word is the one that its bytes, or none, give
abbrev pub back : (w : Word) → from_option (to_option w) ≡ w
back (Copy bytes) = refl
back Free = refl

-- words with the same bytes are equal, as a Model's value requires
abbrev pub word_code : Coded Word
word_code = code_by (Option (List ℕ)) (coded_option (coded_list coded_ℕ)) to_option from_option back

-- words of home blocks that are the same at each home are equal
abbrev pub words_code : Coded WordMap
words_code = map.code coded_ℕ word_code
