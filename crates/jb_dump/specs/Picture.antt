-- A log as a picture: a bar of its blocks in the order of their places, and one of each home that is written most.
use Rattle.std.specs.Prelude.{ℕ, zero, suc, ◌+◌, ◌-◌, ◌*◌, ◌/◌, Bool, List, [], ◌∷◌, ◌++◌, nat_eq, nat_lt, codes}
use Rattle.std.specs.Prelude.{decimal, if◌then◌else◌}
use Rattle.jb_super.specs.Geometry.{place, usable_of}
use Rattle.jb_super.specs.Superblock.{Superblock}
use Rattle.jb_text.specs.TextParts.{spelled}

-- the texts of the first columns, one after the other
abbrev pub columns_upto : (ℕ → List ℕ) → ℕ → List ℕ
columns_upto text zero = []
columns_upto text (suc n) = columns_upto text n ++ text n

-- ---- the bar of the log

-- how many blocks a column stands for: as few as let the log have 64 columns at most
abbrev pub column_blocks : Superblock → ℕ
column_blocks s = (usable_of s + 63) / 64

-- the column that stands for the block at a place
abbrev pub column_of : Superblock → ℕ → ℕ
column_of s at = (at - s.first) / column_blocks s

-- how many columns there are: up to that of the log's last block
abbrev pub column_count : Superblock → ℕ
column_count s = (usable_of s - 1) / column_blocks s + 1

-- the place of the first block that a column stands for
abbrev pub column_place : Superblock → ℕ → ℕ
column_place s column = s.first + column * column_blocks s

-- how many transactions begin in a column, of those of these sizes that stand one after the other from the log's block
-- of an index on
abbrev pub begun_in : Superblock → ℕ → ℕ → List ℕ → ℕ
begun_in s column i [] = 0
begun_in s column i (size ∷ sizes) =
    (if nat_eq (column_of s (place s i)) column then 1 else 0) + begun_in s column (i + size) sizes

-- the index in the log of the block at a place: 0 at the tail
abbrev pub index_at : Superblock → ℕ → ℕ
index_at s at = if nat_lt at s.start then at + usable_of s - s.start else at - s.start

-- a column in which no transaction begins: one that began before it takes its first block, or its blocks are free
abbrev pub bare_text : Bool → List ℕ
bare_text used = if used then codes "-" else codes "."

-- a column, by how many transactions begin in it: their number, or + for more than nine
abbrev pub column_text : ℕ → Bool → List ℕ
column_text begun used =
    if nat_eq begun 0 then bare_text used else (if nat_lt 9 begun then codes "+" else decimal begun)

-- the same of a log with transactions of these sizes, which take this many blocks
abbrev pub bar_column : Superblock → List ℕ → ℕ → ℕ → List ℕ
bar_column s sizes used column =
    column_text (begun_in s column 0 sizes) (nat_lt (index_at s (column_place s column)) used)

-- what stands below a column: T where the tail is in it, H where the head is, B for both
abbrev pub mark_text : Bool → Bool → List ℕ
mark_text tail head =
    if tail then (if head then codes "B" else codes "T") else (if head then codes "H" else codes " ")

-- the same of a log whose transactions take this many blocks
abbrev pub mark_column : Superblock → ℕ → ℕ → List ℕ
mark_column s used column =
    mark_text (nat_eq (column_of s (place s 0)) column) (nat_eq (column_of s (place s used)) column)

-- what the characters of a bar mean, whose columns stand for this many blocks
abbrev pub legend_line : ℕ → List ℕ
legend_line blocks = spelled (
    codes "blocks in a column: " ∷ decimal blocks ∷ codes "; . free, - used, 1-9 transactions begin, + more\n" ∷ [])

-- ---- the homes that are written most

-- a column of a home's bar: # as far as its copies go, where 30 columns stand for the most copies that a home has
abbrev pub copies_column : ℕ → ℕ → ℕ → List ℕ
copies_column most copies column = if nat_lt (column * most) (30 * copies) then codes "#" else codes " "

-- the bar of a home, with how often it is written
abbrev pub home_bar : ℕ → ℕ → ℕ → List ℕ
home_bar most home copies = spelled (
    codes "|" ∷ columns_upto (copies_column most copies) 30 ∷ codes "| home " ∷ decimal home ∷ codes ": "
    ∷ decimal copies ∷ codes "\n" ∷ [])

-- the same of each of these
abbrev pub home_bars : ℕ → List (ℕ × ℕ) → List ℕ
home_bars most [] = []
home_bars most (row ∷ rows) = home_bar most row.0 row.1 ++ home_bars most rows

-- how often the first of some homes is written, or 0 where there is none
abbrev pub most_copies : List (ℕ × ℕ) → ℕ
most_copies [] = 0
most_copies (row ∷ rows) = row.1

-- ---- both

-- the picture of a log with transactions of these sizes, which take this many blocks and write these homes most
abbrev pub picture_text : Superblock → List ℕ → ℕ → List (ℕ × ℕ) → List ℕ
picture_text s sizes used rows = spelled (
    legend_line (column_blocks s) ∷ codes "|" ∷ columns_upto (bar_column s sizes used) (column_count s)
    ∷ codes "|\n|" ∷ columns_upto (mark_column s used) (column_count s)
    ∷ codes "|\nT is the tail, H the head, B both\n" ∷ home_bars (most_copies rows) rows ∷ [])

-- that, or nothing where no picture is wanted
abbrev pub picture_where : Bool → Superblock → List ℕ → ℕ → List (ℕ × ℕ) → List ℕ
picture_where wanted s sizes used rows = if wanted then picture_text s sizes used rows else []
