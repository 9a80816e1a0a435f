-- An image with its journal at its front, in a file of its own or within it: how it is opened, read and recovered.
use Rattle.std.specs.Prelude.{◌≡◌, ◌⊎◌, ◌<◌, ◌/◌, ℕ, Bool, true, false, List, Option, Some, None, Result, Ok, Err}
use Rattle.jb_args.specs.declared.option_name.OptionName.{OptionName}
use Rattle.jb_args.specs.declared.option_name.OptionName.TheVariants as option
use Rattle.jb_disk.specs.File.{IsMeasured, count_of}
use Rattle.jb_disk.specs.declared.disk.Disk.{Ghosts as Disks}
use Rattle.jb_disk.specs.declared.file.FileDisk.{FileDisk}
use Rattle.jb_disk.specs.declared.start.Start.{Ghosts as Starts}
use Rattle.jb_image.specs.Disks.{extents_of, journal_blocks, whole_disk}
use Rattle.jb_image.specs.Lists.{AreDisjoint, SharesFirst, extents_count, extents_in, holds_in, list_of, past_in}
use Rattle.jb_image.specs.Lists.{place_within}
use Rattle.jb_ext.specs.declared.choosing.MapSource.{MapSource}
use Rattle.jb_map.specs.declared.extent.Extent.{Extent}
use Rattle.jb_image.specs.declared.extents_fault.ExtentsFault.{ExtentsFault}
use Rattle.jb_image.specs.declared.extents_fault.ExtentsFault.TheVariants.{BlockSizes, Front, Home, Long, NoJournal}
use Rattle.jb_image.specs.declared.extents_fault.ExtentsFault.TheVariants.{Overlap, PastEnd, Short}
use Rattle.jb_image.specs.declared.judging.FileSystemFault.{FileSystemFault}
use Rattle.jb_format.specs.Front.{homes_in}
use Rattle.jb_super.specs.Superblock.{Superblock}
use Rattle.jb_args.specs.PlainCommand.{CatWords, RecoverWords}
use Rattle.jb_image.specs.Files.{as_files}
use Rattle.jb_image.specs.Images.{is_within, own_asked, own_home}
use Rattle.jb_image.specs.declared.image.ImageDisk.{ImageDisk}
use Rattle.jb_image.specs.declared.judging.JournalUse.{JournalUse}
use Rattle.jb_image.specs.declared.judging.JournalUse.TheVariants.{RecoverCopy, RecoverInPlace}
use Rattle.jb_image.specs.declared.image.ImageDisk.TheVariants.{One, Two, Within}
use Rattle.jb_recover.specs.declared.checked_fault.CheckedFault.{CheckedFault}
use Rattle.jb_recover.specs.declared.recovered.Foreseen.{Foreseen}
use Rattle.jb_super.specs.declared.checked.Checksums.{Checksums}
use Rattle.jb_super.specs.declared.checked.Checksums.TheVariants.{Allowed, Refused}
use Rattle.jb_commands.specs.Cat.{ShowsOn}
use Rattle.jb_commands.specs.Files.{IsImageOpened, IsShut, IsUnread, SaysSuper}
use Rattle.jb_commands.specs.FoundWithin.{IsTried, IsFoundWithin, IsOtherSize}
use Rattle.jb_commands.specs.Checking.{ForetellsBy, ForetellsUnreadBy}
use Rattle.jb_commands.specs.Faults.{recover_fault}
use Rattle.jb_commands.specs.Foresee.{foreseen_end, own_checked}
use Rattle.jb_commands.specs.Judge.{JudgesOn}
use Rattle.jb_commands.specs.ListText.{HasNoList, IsListOf}
use Rattle.jb_commands.specs.OwnPlace.{IsComparedImage, IsFrontShut, IsOpenedByFront, IsOtherImage}
use Rattle.jb_commands.specs.Recover.{RecoversOn}
use Rattle.jb_commands.specs.Reports.{status_end}
use Rattle.jb_commands.specs.declared.fault.CommandFault.{CommandFault}
use Rattle.jb_commands.specs.declared.fault.CommandFault.TheVariants.{BadOption, Extents as InExtents}
use Rattle.jb_commands.specs.declared.fault.CommandFault.TheVariants.{FileSystem as OtherSystem}
use Rattle.jb_commands.specs.declared.files.shut.WithinFault.TheVariants.{Extents}
use Rattle.jb_commands.specs.declared.report.Report.{Report}

-- this option is bad
abbrev pub IsBadOption : OptionName → CommandFault → Type 0
IsBadOption option (BadOption told) = told ≡ option
IsBadOption option _ = ⊥

-- whether checksums are allowed, by the option
abbrev pub sums_of : Bool → Checksums
sums_of false = Refused
sums_of true = Allowed

-- ---- a journal within its image

-- the block that has byte 1,024 of an image, where a file system of ext2, ext3 or ext4 has its superblock
abbrev pub front_block : Superblock → ℕ
front_block sb = 1024 / sb.block_size

-- why these extents hold no journal with this superblock
abbrev pub IsNoPlaceFor : List Extent → Superblock → ExtentsFault → Type 0
IsNoPlaceFor es sb (PastEnd block) = (count : ℕ) × (past_in count es ≡ Some block)
IsNoPlaceFor es sb (Short blocks) = (blocks ≡ extents_count es) × (blocks < sb.maxlen)
IsNoPlaceFor es sb (Long blocks) = (blocks ≡ extents_count es) × (sb.maxlen < blocks)
IsNoPlaceFor es sb (Front block) = (block ≡ front_block sb) × (holds_in es block ≡ true)
IsNoPlaceFor es sb _ = ⊥

-- why these extents hold no journal
abbrev pub IsNoPlace : List Extent → ExtentsFault → Type 0
IsNoPlace es (Overlap block) = SharesFirst es (Some block)
IsNoPlace es NoJournal = (place_within es 0 ≡ None) ⊎ IsTried (Err (Extents NoJournal))
IsNoPlace es (BlockSizes one other) = IsTried (Err (Extents (BlockSizes one other)))
IsNoPlace es fault = (sb : Superblock) × SaysSuper sb × IsNoPlaceFor es sb fault

-- the image of this name was not opened, or the list is none of extents, or they hold no journal; or the file system's
-- blocks have a size that a journal's cannot have
abbrev pub IsShutWithin : List ℕ → List ℕ → CommandFault → Type 0
IsShutWithin name list fault =
    IsUnread name fault
    ⊎ ((IsBadOption option.Extents fault × (extents_in list ≡ None))
    ⊎ (((x : FileSystemFault) × (fault ≡ OtherSystem x) × IsOtherSize x)
    ⊎ ((es : List Extent) × (extents_in list ≡ Some es) × (x : ExtentsFault) × (fault ≡ InExtents x) × IsNoPlace es x)))

-- the image is the file of which these extents hold a journal with this superblock: they share no block, none is past
-- the file's end, they have as many blocks as the journal, and not that of a file system's superblock
pub record IsHeldWithin (es : List Extent) (sb : Superblock) (count : ℕ) : Type 0 where
  pub apart : AreDisjoint es
  pub inside : past_in count es ≡ None
  pub exact : extents_count es ≡ sb.maxlen
  pub behind : holds_in es (front_block sb) ≡ false

-- the list that a word says was not read, or the image was not opened with it
abbrev pub IsShutListed : List ℕ → Option (List ℕ) → List ℕ → CommandFault → Type 0
IsShutListed name input word fault =
    HasNoList input word fault ⊎ ((list : List ℕ) × IsListOf input word list × IsShutWithin name list fault)

module _ {S T : Type 0} {start : Starts S} {other : Starts T} where
  -- the same of the disk that is used, which was asked its length and nothing else
  abbrev pub IsJournalWithin : List Extent → Superblock → ImageDisk (FileDisk S start) (FileDisk T other) → Type 0
  IsJournalWithin es sb (One file) = ⊥
  IsJournalWithin es sb (Two pair) = ⊥
  IsJournalWithin es sb (Within disk) =
      (list_of (extents_of disk) ≡ es) × (journal_blocks disk ≡ sb.maxlen)
      × IsHeldWithin es sb (count_of (whole_disk disk)) × IsMeasured (whole_disk disk)

  -- the list was read, and the journal is there, in blocks of the size that its superblock says
  abbrev pub IsOpenedWithin : List ℕ → ImageDisk (FileDisk S start) (FileDisk T other) → ℕ → Type 0
  IsOpenedWithin list disk homes =
      (es : List Extent) × (extents_in list ≡ Some es) × (sb : Superblock) × IsFoundWithin sb
      × (as_files.size disk ≡ sb.block_size) × (homes ≡ homes_in sb (as_files.count disk)) × IsJournalWithin es sb disk

  -- the same of the list that a word says
  abbrev pub IsOpenedListed : Option (List ℕ) → List ℕ → ImageDisk (FileDisk S start) (FileDisk T other) → ℕ → Type 0
  IsOpenedListed input word disk homes = (list : List ℕ) × IsListOf input word list × IsOpenedWithin list disk homes

  -- the same, and the list agrees with the file system's own journal, where there is a file system
  abbrev pub IsOpenedCompared : Checksums → Option (List ℕ) → List ℕ → ImageDisk (FileDisk S start) (FileDisk T other)
      → ℕ → Type 0
  IsOpenedCompared sums input word disk homes =
      (old : ImageDisk (FileDisk S start) (FileDisk T other)) × IsOpenedListed input word old homes
      × IsComparedImage sums old disk

  -- it is open, wherever its journal is, and this says where that is, where it was looked for
  abbrev pub IsOpenedAt : Checksums → Option (List ℕ) → Option (List ℕ) → Option (List ℕ)
      → ImageDisk (FileDisk S start) (FileDisk T other) → ℕ → Option MapSource → Type 0
  IsOpenedAt sums input None None disk homes found = IsOpenedByFront sums disk homes found
  IsOpenedAt sums input (Some journal) None disk homes found = IsImageOpened (Some journal) disk homes × (found ≡ None)
  IsOpenedAt sums input None (Some word) disk homes found = IsOpenedCompared sums input word disk homes × (found ≡ None)
  IsOpenedAt sums input (Some journal) (Some word) disk homes found = ⊥

-- the list that a word says was not read, or the image was not opened with it; or it was, and the file system's own
-- journal is elsewhere, or is not found
abbrev pub IsShutCompared : {S T : Type 0} → Checksums → Starts S → Starts T → List ℕ → Option (List ℕ) → List ℕ
    → CommandFault → Type 0
IsShutCompared {S} {T} sums start other name input word fault =
    IsShutListed name input word fault
    ⊎ ((old : ImageDisk (FileDisk S start) (FileDisk T other)) × (homes : ℕ) × IsOpenedListed input word old homes
    × IsOtherImage sums old fault)

-- it was not opened: both places were named, or see those of the one
abbrev pub IsShutAt : {S T : Type 0} → Checksums → Starts S → Starts T → List ℕ → Option (List ℕ) → Option (List ℕ)
    → Option (List ℕ) → CommandFault → Type 0
IsShutAt sums start other name input None None fault = IsFrontShut sums start name fault
IsShutAt sums start other name input (Some journal) None fault = IsShut name (Some journal) fault
IsShutAt sums start other name input None (Some word) fault = IsShutCompared sums start other name input word fault
IsShutAt sums start other name input (Some journal) (Some word) fault = IsBadOption option.Extents fault

module _ {D E : Type 0} (G : Disks (ImageDisk D E)) where
  -- home blocks were written as their peeks gave them, unless this one that was asked for is the journal's own: then
  -- nothing was done
  abbrev pub ShowsUnless : Option ℕ → ℕ → CatWords → ImageDisk D E → ImageDisk D E → Option (List ℕ) → Option (List ℕ)
      → Result Report CommandFault → Type 0
  ShowsUnless None homes words old new out_old out_new end =
      (told : Result ℕ CommandFault)
      × ShowsOn (sums_of words.checksums) G (Some homes) words.home words.count words.hex old new out_old out_new told
      × (end ≡ status_end told)
  ShowsUnless (Some home) homes words old new out_old out_new end =
      (new ≡ old) × (out_new ≡ out_old) × (end ≡ Err (InExtents (Home home)))

  -- the same, where one that is asked for may be the journal's own
  abbrev pub ShowsAsked : ℕ → CatWords → ImageDisk D E → ImageDisk D E → Option (List ℕ) → Option (List ℕ)
      → Result Report CommandFault → Type 0
  ShowsAsked homes words old new out_old out_new end =
      ShowsUnless (own_asked old words.home words.count) homes words old new out_old out_new end

module _ {S T : Type 0} {start : Starts S} {other : Starts T} where
  -- the image was not opened, and nothing was done; or home blocks of it were written as their peeks gave them, in
  -- blocks of the size that its first bytes say, as many as asked for from one on, since it was opened; the first is
  -- peeked at where none is asked for
  abbrev pub EndsOfCat : List ℕ → CatWords → Option (List ℕ) → Option (List ℕ) → Option (List ℕ)
      → Option (ImageDisk (FileDisk S start) (FileDisk T other)) → Result Report CommandFault → Type 0
  EndsOfCat name words input out_old out_new None end =
      (fault : CommandFault) × (end ≡ Err fault)
      × IsShutAt (sums_of words.checksums) start other name input words.journal words.extents fault
      × (out_new ≡ out_old)
  EndsOfCat name words input out_old out_new (Some new) end =
      (old : ImageDisk (FileDisk S start) (FileDisk T other)) × (homes : ℕ) × (found : Option MapSource)
      × IsOpenedAt (sums_of words.checksums) input words.journal words.extents old homes found
      × ShowsAsked as_files homes words old new out_old out_new end

-- ---- a recovery

-- the journal is elsewhere than at the front of the image
abbrev pub is_beside : Option (List ℕ) → Bool → Bool
is_beside None within = within
is_beside (Some journal) within = true

-- what the journal is that is to be recovered: in a file of its own it was copied out of the image
abbrev pub use_of : Option (List ℕ) → JournalUse
use_of None = RecoverInPlace
use_of (Some journal) = RecoverCopy

-- a journal that is beside its home blocks was judged by them, by what it is to them
abbrev pub JudgesBeside : {D : Type 0} → Checksums → Disks D → Bool → JournalUse → Bool → D → D
    → Result Unit CommandFault → Type 0
JudgesBeside sums G true used force old new judged = JudgesOn sums G used force old new judged
JudgesBeside sums G false used force old new judged = (new ≡ old) × (judged ≡ Ok tt)

module _ {D E : Type 0} (G : Disks (ImageDisk D E)) where
  -- it was foreseen what a recovery of an image would do, and that is the end, unless a copy is for a home block that
  -- is the journal's own
  abbrev pub ForeseesImage : Checksums → ℕ → Option MapSource → Bool → ImageDisk D E → ImageDisk D E
      → Result Report CommandFault → Type 0
  ForeseesImage sums homes found list old new end =
      (answer : Result Foreseen CheckedFault) × ForetellsBy sums G old new answer
      × (end ≡ foreseen_end new homes found list answer)

  -- all was judged that a recovery judges, and whether a copy is for a home block that is the journal's own
  abbrev pub JudgesOwn : Checksums → ℕ → ImageDisk D E → ImageDisk D E → Result Unit CommandFault → Type 0
  JudgesOwn sums homes old new checked =
      (answer : Result Foreseen CheckedFault) × ForetellsBy sums G old new answer
      × (checked ≡ own_checked new homes answer)

  -- no copy is for a home block that is the journal's own; or this one is, and all was judged, of which a recovery may
  -- refuse something first
  abbrev pub ChecksApart : Checksums → ℕ → Option ℕ → ImageDisk D E → ImageDisk D E → Result Unit CommandFault → Type 0
  ChecksApart sums homes None old new checked = (new ≡ old) × (checked ≡ Ok tt)
  ChecksApart sums homes (Some home) old new checked = JudgesOwn sums homes old new checked

  -- the same by the home blocks that would be written if all data is right, or why the log is refused before that is
  -- judged
  abbrev pub ChecksListed : Checksums → ℕ → Result Foreseen CheckedFault → ImageDisk D E → ImageDisk D E
      → Result Unit CommandFault → Type 0
  ChecksListed sums homes (Ok told) old new checked =
      ChecksApart sums homes (own_home old told.homes.items) old new checked
  ChecksListed sums homes (Err fault) old new checked = (new ≡ old) × (checked ≡ Err (recover_fault (Some homes) fault))

  -- of a journal within its home blocks it was foreseen whether a copy is for one of its own
  abbrev pub ChecksOwn : Checksums → ℕ → ImageDisk D E → ImageDisk D E → Result Unit CommandFault → Type 0
  ChecksOwn sums homes old new checked =
      ((is_within old ≡ false) × (new ≡ old) × (checked ≡ Ok tt))
      ⊎ ((is_within old ≡ true)
      × ((mid : ImageDisk D E) × (listed : Result Foreseen CheckedFault) × ForetellsUnreadBy sums G old mid listed
      × ChecksListed sums homes listed mid new checked))

  -- the image was recovered, or that is why not
  abbrev pub RecoversChecked : Checksums → ℕ → Option MapSource → Result Unit CommandFault → ImageDisk D E
      → ImageDisk D E → Result Report CommandFault → Type 0
  RecoversChecked sums homes found (Ok done) old new end = RecoversOn sums G (Some homes) found old new end
  RecoversChecked sums homes found (Err fault) old new end = (new ≡ old) × (end ≡ Err fault)

  -- the image was recovered, unless a copy is for a home block that is the journal's own
  abbrev pub RecoversImage : Checksums → ℕ → Option MapSource → ImageDisk D E → ImageDisk D E
      → Result Report CommandFault → Type 0
  RecoversImage sums homes found old new end =
      (mid : ImageDisk D E) × (checked : Result Unit CommandFault) × ChecksOwn sums homes old mid checked
      × RecoversChecked sums homes found checked mid new end

  -- it was said what a recovery would do, or the image was recovered
  abbrev pub DoesRecover : Checksums → Bool → Bool → ℕ → Option MapSource → ImageDisk D E → ImageDisk D E
      → Result Report CommandFault → Type 0
  DoesRecover sums true list homes found = ForeseesImage sums homes found list
  DoesRecover sums false list homes found = RecoversImage sums homes found

  -- what was asked for was done, or that is why not
  abbrev pub RecoversJudged : RecoverWords → ℕ → Option MapSource → Result Unit CommandFault → ImageDisk D E
      → ImageDisk D E → Result Report CommandFault → Type 0
  RecoversJudged words homes found (Ok done) old new end =
      DoesRecover (sums_of words.checksums) words.dry_run words.list homes found old new end
  RecoversJudged words homes found (Err fault) old new end = (new ≡ old) × (end ≡ Err fault)

  -- an image with this many home blocks was judged, where its journal is beside them, and then what was asked for was
  -- done; what says where its journal lies is reported
  abbrev pub RecoversOpened : RecoverWords → ℕ → Option MapSource → ImageDisk D E → ImageDisk D E
      → Result Report CommandFault → Type 0
  RecoversOpened words homes found old new end =
      (mid : ImageDisk D E) × (judged : Result Unit CommandFault)
      × JudgesBeside (sums_of words.checksums) G (is_beside words.journal (is_within old)) (use_of words.journal)
      words.force old mid judged
      × RecoversJudged words homes found judged mid new end

-- the words do not go together, or the image was not opened
abbrev pub IsNotOpenedToRecover : {S T : Type 0} → Starts S → Starts T → List ℕ → RecoverWords → Option (List ℕ)
    → CommandFault → Type 0
IsNotOpenedToRecover start other name words input fault =
    (IsBadOption option.List fault × (words.list ≡ true) × (words.dry_run ≡ false))
    ⊎ IsShutAt (sums_of words.checksums) start other name input words.journal words.extents fault

module _ {S T : Type 0} {start : Starts S} {other : Starts T} where
  -- the image was not opened, and nothing was done; or what was asked for was done since it was opened. If its files
  -- are honest, all that a recovery says of contents holds of them
  abbrev pub EndsOfRecover : List ℕ → RecoverWords → Option (List ℕ)
      → Option (ImageDisk (FileDisk S start) (FileDisk T other)) → Result Report CommandFault → Type 0
  EndsOfRecover name words input None end =
      (fault : CommandFault) × (end ≡ Err fault) × IsNotOpenedToRecover start other name words input fault
  EndsOfRecover name words input (Some new) end =
      (old : ImageDisk (FileDisk S start) (FileDisk T other)) × (homes : ℕ) × (found : Option MapSource)
      × IsOpenedAt (sums_of words.checksums) input words.journal words.extents old homes found
      × RecoversOpened as_files words homes found old new end
