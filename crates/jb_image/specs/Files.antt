-- An image in files as a disk.
use Rattle.std.specs.Prelude.{◌≡◌, true, false, length, Some}
use Rattle.jb_block.specs.Size.{bytes_of}
use Rattle.jb_disk.specs.File.{UnknownFile, IsHonest, IsOneCall, IsWellAsked, MayGoOn, FileLeaves, FileLeft, content_of}
use Rattle.jb_disk.specs.File.{count_of, events_of, failure_of, faults_of, size_of_blocks}
use Rattle.jb_disk.specs.declared.disk.Disk.{Ghosts}
use Rattle.jb_disk.specs.declared.file.FileDisk.{FileDisk}
use Rattle.jb_disk.specs.declared.start.Start.{Ghosts as Starts}
use Rattle.jb_image.specs.Images.{image_count, image_faults, image_moment, image_newest, image_size, IsHonestImage}
use Rattle.jb_image.specs.Images.{IsImageWellAsked, MayImageGoOn, ImageCalled, ImageLeaves, ImageLeft, ImageTells}
use Rattle.jb_image.specs.declared.image.ImageDisk.{ImageDisk}

-- what a file is as a disk
abbrev pub as_file : {S : Type 0} {start : Starts S} → Ghosts (FileDisk S start)
as_file = record {
  size = λ f. bytes_of (size_of_blocks f);
  count = count_of;
  faults = faults_of;
  honest = IsHonest;
  newest = content_of;
  may_leave = FileLeaves;
  moment = λ f. length (events_of f);
  left_since = FileLeft;
  fails_next = λ _. false;
  may_go_on = MayGoOn;
  well_asked = IsWellAsked;
  own = IsOneCall;
  runs_as_calls = true;
  tells = λ f failure. failure_of f ≡ Some failure;
}

-- what an image on disks of two kinds is: of the first kind the one with the home blocks
abbrev pub as_disks : {D E : Type 0} → Ghosts D → Ghosts E → Ghosts (ImageDisk D E)
as_disks G H = record {
  size = image_size G H;
  count = image_count G H;
  faults = image_faults G H;
  honest = IsHonestImage G H;
  newest = image_newest G H;
  may_leave = ImageLeaves G H;
  moment = image_moment G H;
  left_since = ImageLeft G H;
  fails_next = λ _. false;
  may_go_on = MayImageGoOn G H;
  well_asked = IsImageWellAsked G H;
  own = ImageCalled G H;
  runs_as_calls = false;
  tells = ImageTells G H;
}

-- what an image in two files is, the one with the home blocks first; or in one of the first kind
abbrev pub as_files : {S T : Type 0} {start : Starts S} {other : Starts T}
    → Ghosts (ImageDisk (FileDisk S start) (FileDisk T other))
as_files = as_disks as_file as_file

-- an image in files of which nothing is supposed
abbrev pub FileImage : Type 0
FileImage = ImageDisk UnknownFile UnknownFile

-- what it is as a disk
abbrev pub as_image : Ghosts FileImage
as_image = as_files
