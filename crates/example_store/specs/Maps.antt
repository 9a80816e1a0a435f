-- The map that the homes of a journal say.
use Rattle.std.specs.Prelude.{ℕ, ◌%◌, List, Option, if◌then◌else◌, ◌==◌}
use Rattle.jb_block.specs.Size.{bytes_of}
use Rattle.jb_disk.specs.File.{content_of, count_of, size_of_blocks}
use Rattle.jb_disk.specs.Image.{Image}
use Rattle.jb_deck.specs.Open.{recovered_home}
use Rattle.jb_journal.specs.Names.{FileDisk, Starts}
use Rattle.example_store.specs.Tables.{value_at}

-- a map: the value that each key has, if it has one; 0 is no key
abbrev pub Mapping : Type 0
Mapping = ℕ → Option ℕ

-- a map in which one key has this value, or none, and each other key what it had
abbrev pub with_value : Mapping → ℕ → Option ℕ → Mapping
with_value m key value other = if other == key then value else m other

-- what homes say: of each key what the bytes of its home do
abbrev pub map_of : (ℕ → List ℕ) → Mapping
map_of homes key = value_at (homes (key % 32)) key

-- what the homes of an image on this many blocks of this size say once its journal is recovered
abbrev pub map_on : ℕ → ℕ → Image → Mapping
map_on size count c = map_of (recovered_home size count c)

-- the same of the image in a file
abbrev pub map_in_file : {S : Type 0} {start : Starts S} → FileDisk S start → Mapping
map_in_file f = map_on (bytes_of (size_of_blocks f)) (count_of f) (content_of f)
