-- The journal that `jb dump` writes the text of, wherever it is.
use Rattle.std.specs.Prelude.{◌≡◌, ◌⊎◌, ◌&&◌, ℕ, Bool, true, false, not, if◌then◌else◌, List, Option, Some, None}
use Rattle.std.specs.Prelude.{Result, Ok, Err, codes}
use Rattle.std.specs.Str.{bytes_eq}
use Rattle.jb_args.specs.PlainCommand.{DumpWords}
use Rattle.jb_args.specs.declared.option_name.OptionName.TheVariants as option
use Rattle.jb_disk.specs.declared.file.FileDisk.{FileDisk}
use Rattle.jb_disk.specs.declared.start.Start.{Ghosts as Starts}
use Rattle.jb_ext.specs.declared.choosing.MapSource.{MapSource}
use Rattle.jb_ext.specs.declared.system.FileSystem.{FileSystem}
use Rattle.jb_image.specs.Files.{as_files}
use Rattle.jb_image.specs.declared.image.ImageDisk.{ImageDisk}
use Rattle.jb_super.specs.declared.checked.Checksums.{Checksums}
use Rattle.jb_super.specs.declared.checked.Checksums.TheVariants.{Unjudged}
use Rattle.jb_commands.specs.Dump.{DumpsOn, DumpsSaying, IsUnopened, choice_of, is_placed, is_unbegun}
use Rattle.jb_commands.specs.FoundWithin.{IsReadOf}
use Rattle.jb_commands.specs.JournalPlace.{IsOpenedAt, IsShutAt, sums_of}
use Rattle.jb_commands.specs.declared.fault.CommandFault.{CommandFault}
use Rattle.jb_commands.specs.Searched.{DumpsDisk}
use Rattle.jb_commands.specs.declared.fault.CommandFault.TheVariants.{BadOption, Memory}

-- which journals are looked for: those of any features, where the superblock alone is shown
abbrev pub sums_sought : DumpWords → Checksums
sums_sought words = if words.superblock && not words.summary then Unjudged else sums_of words.checksums

module _ {S T : Type 0} (start : Starts S) (other : Starts T) where
  -- the image was opened, with its journal where the words say it, and that was dumped; or it was not opened, and
  -- nothing was written
  abbrev pub DumpsPlaced : DumpWords → List ℕ → Option (List ℕ) → Option (List ℕ) → Option (List ℕ)
      → Result ℕ CommandFault → Type 0
  DumpsPlaced words name input out_old out_new end =
      ((disk : ImageDisk (FileDisk S start) (FileDisk T other)) × (homes : ℕ) × (found : Option MapSource)
      × IsOpenedAt (sums_sought words) input words.journal words.extents disk homes found
      × DumpsDisk as_files words disk out_old out_new end)
      ⊎ ((fault : CommandFault) × (end ≡ Err fault)
      × IsShutAt (sums_sought words) start other name input words.journal words.extents fault × (out_new ≡ out_old))

  -- no journal begins in the bytes of a file, of which nothing was written; and it is a file system, and is dumped as
  -- an image, or there was no memory to know it
  abbrev pub DumpsSystem : DumpWords → List ℕ → Option (List ℕ) → Option (List ℕ) → Option (List ℕ)
      → Result ℕ CommandFault → Type 0
  DumpsSystem words name input out_old out_new end =
      (before after out_mid : Option (List ℕ)) × (first : Result ℕ CommandFault)
      × DumpsSaying (choice_of words) before after out_old out_mid first × (is_unbegun first ≡ true)
      × ((((system : FileSystem) × IsReadOf (Some system)) × DumpsPlaced words name input out_mid out_new end)
      ⊎ ((end ≡ Err Memory) × (out_new ≡ out_mid)))

  -- the journal of the bytes of a file that is open was dumped, or that of the file system which it is
  abbrev pub DumpsOpen : DumpWords → List ℕ → Option (List ℕ) → Option (List ℕ) → Option (List ℕ)
      → Result ℕ CommandFault → Type 0
  DumpsOpen words name input out_old out_new end =
      ((before after : Option (List ℕ)) × DumpsSaying (choice_of words) before after out_old out_new end)
      ⊎ DumpsSystem words name input out_old out_new end

  -- the same of the file of this name; or it was not opened, and nothing was written
  abbrev pub DumpsFile : DumpWords → List ℕ → Option (List ℕ) → Option (List ℕ) → Option (List ℕ)
      → Result ℕ CommandFault → Type 0
  DumpsFile words name input out_old out_new end =
      DumpsOpen words name input out_old out_new end
      ⊎ ((fault : CommandFault) × (end ≡ Err fault) × IsUnopened name fault × (out_new ≡ out_old))

  -- where the words say where the journal is, the image was dumped so; else the journal of standard input, or that of
  -- the file of this name
  abbrev pub DumpsFrom : Bool → Bool → DumpWords → List ℕ → Option (List ℕ) → Option (List ℕ) → Option (List ℕ)
      → Option (List ℕ) → Result ℕ CommandFault → Type 0
  DumpsFrom true dash words name before after out_old out_new end = DumpsPlaced words name before out_old out_new end
  DumpsFrom false true words name before after out_old out_new end =
      DumpsOn (choice_of words) before after out_old out_new end
  DumpsFrom false false words name before after out_old out_new end = DumpsFile words name before out_old out_new end

  -- the journal after this name was dumped, where the words say it is, or that of standard input after `-`, or else
  -- that of a file
  abbrev pub DumpsChosen : DumpWords → List ℕ → Option (List ℕ) → Option (List ℕ) → Option (List ℕ) → Option (List ℕ)
      → Result ℕ CommandFault → Type 0
  DumpsChosen words name = DumpsFrom (is_placed words) (bytes_eq name (codes "-")) words name

  -- the same, unless the ring is to be searched of a journal that may have no checksums
  abbrev pub DumpsUnless : Bool → DumpWords → List ℕ → Option (List ℕ) → Option (List ℕ) → Option (List ℕ)
      → Option (List ℕ) → Result ℕ CommandFault → Type 0
  DumpsUnless true words name before after out_old out_new end =
      (end ≡ Err (BadOption option.Ring)) × (out_new ≡ out_old)
  DumpsUnless false words name before after out_old out_new end =
      DumpsChosen words name before after out_old out_new end

  -- the journal after this name was dumped, or an option is bad
  abbrev pub DumpsNamed : DumpWords → List ℕ → Option (List ℕ) → Option (List ℕ) → Option (List ℕ) → Option (List ℕ)
      → Result ℕ CommandFault → Type 0
  DumpsNamed words name before after out_old out_new end =
      DumpsUnless (words.ring && not words.checksums) words name before after out_old out_new end

  -- the same, where standard input is known as it was before alone
  abbrev pub EndsOfDump : DumpWords → List ℕ → Option (List ℕ) → Option (List ℕ) → Option (List ℕ)
      → Result ℕ CommandFault → Type 0
  EndsOfDump words name before out_old out_new end =
      (after : Option (List ℕ)) × DumpsNamed words name before after out_old out_new end
