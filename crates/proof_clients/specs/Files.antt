-- Two files as one disk.
use Rattle.std.specs.Prelude.{ℕ, ◌++◌}
use Rattle.jb_block.specs.Size.{bytes_of}
use Rattle.jb_disk.specs.Faults.{counted}
use Rattle.jb_disk.specs.File.{content_of, count_of, faults_of, size_of_blocks}
use Rattle.jb_disk.specs.Image.{Image}
use Rattle.jb_disk.specs.declared.file.FileDisk.{FileDisk}
use Rattle.jb_disk.specs.declared.start.Start.{Ghosts}
use Rattle.jb_image.specs.Files.{as_file}
use Rattle.jb_image.specs.Pair.{back_disk, front_disk, joined_count, IsHonestPair, PairLeaves, PairLeftSince}
use Rattle.jb_image.specs.declared.pair.PairDisk.{PairDisk}

-- how many blocks two files have together
abbrev pub files_count : {S T : Type 0} {start : Ghosts S} {other : Ghosts T}
    → PairDisk (FileDisk S start) (FileDisk T other) → ℕ
files_count p =
    joined_count (bytes_of (size_of_blocks (front_disk p))) (count_of (front_disk p))
    (bytes_of (size_of_blocks (back_disk p))) (count_of (back_disk p))

-- how many calls of them have failed
abbrev pub files_faults : {S T : Type 0} {start : Ghosts S} {other : Ghosts T}
    → PairDisk (FileDisk S start) (FileDisk T other) → ℕ
files_faults p = counted (faults_of (front_disk p)) (faults_of (back_disk p))

-- what they hold, the one after the other, if they are honest
abbrev pub files_content : {S T : Type 0} {start : Ghosts S} {other : Ghosts T}
    → PairDisk (FileDisk S start) (FileDisk T other) → Image
files_content p = content_of (front_disk p) ++ content_of (back_disk p)

-- their records are those of honest files that held what was supposed
abbrev pub AreHonestFiles : {S T : Type 0} {start : Ghosts S} {other : Ghosts T}
    → PairDisk (FileDisk S start) (FileDisk T other) → Type 0
AreHonestFiles p = IsHonestPair as_file as_file p

-- what a crash may leave of them, if they are
abbrev pub FilesLeave : {S T : Type 0} {start : Ghosts S} {other : Ghosts T}
    → PairDisk (FileDisk S start) (FileDisk T other) → Image → Type 0
FilesLeave p = PairLeaves as_file as_file p

-- what a crash might have left of them since this many calls, if they are
abbrev pub FilesLeft : {S T : Type 0} {start : Ghosts S} {other : Ghosts T}
    → PairDisk (FileDisk S start) (FileDisk T other) → ℕ → Image → Type 0
FilesLeft p = PairLeftSince as_file as_file p
