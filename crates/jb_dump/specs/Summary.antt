-- A journal at a glance: what its log holds, and the text of that.
use Rattle.std.specs.Prelude.{ℕ, zero, suc, ◌+◌, ◌-◌, ◌/◌, Bool, List, [], ◌∷◌, ◌++◌, length, map, max, min, codes}
use Rattle.std.specs.Prelude.{decimal}
use Rattle.jb_super.specs.Geometry.{place, usable_of}
use Rattle.jb_super.specs.Superblock.{Superblock}
use Rattle.jb_text.specs.TextParts.{spelled}
use Rattle.jb_scan.specs.Found.{blocks_in}
use Rattle.jb_scan.specs.declared.transaction.Piece.{Piece}
use Rattle.jb_scan.specs.declared.transaction.Piece.TheVariants.{Revokes, Run}
use Rattle.jb_scan.specs.declared.transaction.Transaction.{Transaction}
use Rattle.jb_dump.specs.Dates.{date_text}
use Rattle.jb_dump.specs.Lines.{clean_line, home_in}
use Rattle.jb_dump.specs.MostWritten.{foremost, written_rows}
use Rattle.jb_dump.specs.Picture.{picture_where}

-- what the committed transactions of a log come to: how many blocks each takes, the homes of all their copies, how many
-- homes their revoke blocks name, and when each was committed, in seconds since 1970; all in the order of the log
pub record Summary : Type 0 where
  pub sizes : List ℕ
  pub homes : List ℕ
  pub revokes : ℕ
  pub times : List ℕ

-- how many blocks a transaction takes, with its commit block
abbrev pub transaction_size : Transaction → ℕ
transaction_size t = blocks_in t.pieces + 1

-- the homes of a part's copies
abbrev pub copied_by : Piece → List ℕ
copied_by (Revokes count homes) = []
copied_by (Run copies) = map home_in copies

-- those of some parts
abbrev pub copied_in : List Piece → List ℕ
copied_in [] = []
copied_in (piece ∷ pieces) = copied_by piece ++ copied_in pieces

-- how many homes a part revokes
abbrev pub named_by : Piece → ℕ
named_by (Revokes count homes) = length homes
named_by (Run copies) = 0

-- how many some parts do
abbrev pub revoked_in : List Piece → ℕ
revoked_in [] = 0
revoked_in (piece ∷ pieces) = named_by piece + revoked_in pieces

-- when a transaction was committed
abbrev pub time_of : Transaction → ℕ
time_of t = t.stamp.sec

-- the homes of the copies of some transactions
abbrev pub all_copied : List Transaction → List ℕ
all_copied [] = []
all_copied (t ∷ ts) = copied_in t.pieces ++ all_copied ts

-- how many homes they revoke
abbrev pub all_revoked : List Transaction → ℕ
all_revoked [] = 0
all_revoked (t ∷ ts) = revoked_in t.pieces + all_revoked ts

-- what these transactions come to
abbrev pub summary_of : List Transaction → Summary
summary_of ts =
    record { sizes = map transaction_size ts; homes = all_copied ts; revokes = all_revoked ts; times = map time_of ts }

-- ---- measures of it

-- a sum
abbrev pub sum_of : List ℕ → ℕ
sum_of [] = 0
sum_of (n ∷ ns) = n + sum_of ns

-- the least of a number and these
abbrev pub least_with : ℕ → List ℕ → ℕ
least_with n [] = n
least_with n (m ∷ ms) = least_with (min n m) ms

-- the least of some numbers, or 0 where there is none
abbrev pub least_of : List ℕ → ℕ
least_of [] = 0
least_of (n ∷ ns) = least_with n ns

-- the greatest of a number and these
abbrev pub most_with : ℕ → List ℕ → ℕ
most_with n [] = n
most_with n (m ∷ ms) = most_with (max n m) ms

-- the greatest of some numbers, or 0 where there is none
abbrev pub greatest_of : List ℕ → ℕ
greatest_of ns = most_with 0 ns

-- the first of some numbers, or 0
abbrev pub first_of_all : List ℕ → ℕ
first_of_all [] = 0
first_of_all (n ∷ ns) = n

-- the last of a number and these
abbrev pub last_with : ℕ → List ℕ → ℕ
last_with n [] = n
last_with n (m ∷ ms) = last_with m ms

-- the last of some numbers, or 0
abbrev pub last_of_all : List ℕ → ℕ
last_of_all ns = last_with 0 ns

-- ---- the text

-- how much of the log's room is used: how many transactions there are, and the used, all and the free blocks
abbrev pub room_text : ℕ → ℕ → ℕ → ℕ → List ℕ
room_text count used usable free = spelled (
    codes "log transactions=" ∷ decimal count ∷ codes " used=" ∷ decimal used ∷ codes " usable=" ∷ decimal usable
    ∷ codes " free=" ∷ decimal free ∷ codes "\n" ∷ [])

-- the same of a journal with this superblock
abbrev pub room_line : Superblock → ℕ → ℕ → List ℕ
room_line s count used = room_text count used (usable_of s) (usable_of s - used)

-- the places of the log's first block, and of the first one after it
abbrev pub ends_line : Superblock → ℕ → List ℕ
ends_line s used =
    spelled (codes "ends tail=" ∷ decimal (place s 0) ∷ codes " head=" ∷ decimal (place s used) ∷ codes "\n" ∷ [])

-- how many blocks the transactions take: the fewest, in the mean, rounded down, and the most
abbrev pub sizes_line : ℕ → ℕ → ℕ → List ℕ
sizes_line least mean most = spelled (
    codes "blocks least=" ∷ decimal least ∷ codes " mean=" ∷ decimal mean ∷ codes " most=" ∷ decimal most ∷ codes "\n"
    ∷ [])

-- how many copies there are, and of how many homes
abbrev pub copies_line : ℕ → ℕ → List ℕ
copies_line copies homes =
    spelled (codes "copies total=" ∷ decimal copies ∷ codes " homes=" ∷ decimal homes ∷ codes "\n" ∷ [])

-- how often a home is written
abbrev pub written_line : ℕ × ℕ → List ℕ
written_line row = spelled (codes "home number=" ∷ decimal row.0 ∷ codes " copies=" ∷ decimal row.1 ∷ codes "\n" ∷ [])

-- the same of each of these
abbrev pub written_lines : List (ℕ × ℕ) → List ℕ
written_lines [] = []
written_lines (row ∷ rows) = written_line row ++ written_lines rows

-- how many revokes there are
abbrev pub revokes_line : ℕ → List ℕ
revokes_line revokes = spelled (codes "revokes total=" ∷ decimal revokes ∷ codes "\n" ∷ [])

-- when the first and the last transaction were committed
abbrev pub times_line : ℕ → ℕ → List ℕ
times_line first last =
    spelled (codes "commits first=" ∷ date_text first ∷ codes " last=" ∷ date_text last ∷ codes "\n" ∷ [])

-- what is said of some transactions beside their room and ends
abbrev pub contents_text : Summary → List ℕ
contents_text sum =
    let rows = written_rows sum.homes in
    spelled (
    sizes_line (least_of sum.sizes) (sum_of sum.sizes / length sum.sizes) (greatest_of sum.sizes)
    ∷ copies_line (length sum.homes) (length rows) ∷ written_lines (foremost rows) ∷ revokes_line sum.revokes
    ∷ times_line (first_of_all sum.times) (last_of_all sum.times) ∷ [])

-- that, and where it is wanted the picture of the log of a journal with this superblock
abbrev pub contents_drawn : Bool → Superblock → Summary → List ℕ
contents_drawn drawn s sum =
    contents_text sum ++ picture_where drawn s sum.sizes (sum_of sum.sizes) (foremost (written_rows sum.homes))

-- nothing of none, and else that
abbrev pub contents_said : ℕ → List ℕ → List ℕ
contents_said zero text = []
contents_said (suc n) text = text

-- the text of a log that has to be recovered, with its picture or without
abbrev pub glance_text : Bool → Superblock → Summary → List ℕ
glance_text drawn s sum =
    spelled (room_line s (length sum.sizes) (sum_of sum.sizes) ∷ ends_line s (sum_of sum.sizes)
    ∷ contents_said (length sum.sizes) (contents_drawn drawn s sum) ∷ [])

-- that of a clean journal, whose log holds nothing
abbrev pub clean_said : Superblock → List ℕ
clean_said s = spelled (room_line s 0 0 ∷ clean_line s ∷ [])
