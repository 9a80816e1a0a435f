-- How `jb load` ends over files.
use Rattle.std.specs.Prelude.{◌≡◌, ◌⊎◌, ◌≤◌, ℕ, Bool, true, false, List, Option, None, Result, Ok, Err, Some, IfSome}
use Rattle.jb_args.specs.declared.hint.Hint.{Hint}
use Rattle.jb_args.specs.declared.settings.AnswerForm.{AnswerForm}
use Rattle.jb_args.specs.declared.option_name.OptionName.TheVariants.{Threads}
use Rattle.jb_ext.specs.declared.choosing.MapSource.{MapSource}
use Rattle.jb_super.specs.declared.checked.Checksums.TheVariants.{Refused}
use Rattle.jb_commands.specs.QueueFaults.{queue_fault}
use Rattle.jb_commands.specs.AnswerSaid.{said}
use Rattle.jb_commands.specs.declared.command_output.CommandOutput.{CommandOutput}
use Rattle.jb_deck.specs.declared.fault.OpenFault.{OpenFault}
use Rattle.jb_deck.specs.declared.fault.OpenFault.TheVariants as opening
use Rattle.jb_disk.specs.declared.disk.Disk.{Ghosts as Disks}
use Rattle.jb_disk.specs.declared.failure.Failure.{Failure}
use Rattle.jb_disk.specs.declared.file.FileDisk.{FileDisk}
use Rattle.jb_disk.specs.declared.start.Start.{Ghosts as Starts}
use Rattle.jb_image.specs.Files.{FileImage, as_files}
use Rattle.jb_image.specs.Images.{is_within}
use Rattle.jb_image.specs.declared.extents_fault.ExtentsFault.TheVariants.{Home}
use Rattle.jb_image.specs.declared.image.ImageDisk.{ImageDisk}
use Rattle.jb_image.specs.declared.judging.JournalUse.{JournalUse}
use Rattle.jb_image.specs.declared.judging.JournalUse.TheVariants.{LoadCopy, LoadInPlace}
use Rattle.jb_journal.specs.Start.{started_on}
use Rattle.jb_text.specs.declared.putting.WriteFault.{WriteFault}
use Rattle.jb_tool.specs.Loads.{AnswersLoad}
use Rattle.jb_tool.specs.LoadLines.{TellsLoad}
use Rattle.jb_tool.specs.OwnTouched.{own_touched}
use Rattle.jb_tool.specs.declared.loading.fault.LoadFault.{LoadFault}
use Rattle.jb_tool.specs.declared.loading.fault.LoadFault.TheVariants as loading
use Rattle.jb_tool.specs.declared.loading.loaded.Loaded.{Loaded}
use Rattle.jb_tool.specs.declared.loading.options.LoadOptions.{LoadOptions}
use Rattle.jb_queue.specs.Queue.{Queue, queue_of}
use Rattle.jb_queue.specs.declared.fault.QueueFault.{QueueFault}
use Rattle.jb_args.specs.Command.{Loading}
use Rattle.jb_commands.specs.Faults.{with_failure}
use Rattle.jb_commands.specs.Lines.{names_with}
use Rattle.jb_commands.specs.JournalPlace.{IsBadOption, IsOpenedAt, IsShutAt, JudgesBeside, is_beside}
use Rattle.jb_commands.specs.Reports.{image_tells}
use Rattle.jb_commands.specs.Runs.{Closes}
use Rattle.jb_commands.specs.Outputs.{Outputs, Tells}
use Rattle.jb_commands.specs.Texts.{HasNoText, IsText}
use Rattle.jb_commands.specs.declared.program_end.ProgramEnd.{ProgramEnd}
use Rattle.jb_tool.specs.Hints.{load_hint}
use Rattle.jb_tool.specs.declared.load_report.LoadReport.{LoadReport}
use Rattle.jb_tool.specs.declared.load_report.LoadReport.TheVariants.{Loaded as ReportsLoaded, Text as ReportsText}
use Rattle.jb_commands.specs.declared.fault.CommandFault.{CommandFault}
use Rattle.jb_commands.specs.declared.fault.CommandFault.TheVariants.{Accounts, BlockSize, DeviceFault, Extents, Memory}
use Rattle.jb_commands.specs.declared.fault.CommandFault.TheVariants.{NeedsRecovery, NumbersSpent, Super}
use Rattle.jb_commands.specs.declared.fault.CommandFault.TheVariants.{WriteFault as CommandWriteFault}

-- as many threads as a load may have
abbrev pub HasThreads : Loading → Type 0
HasThreads load = (1 ≤ load.threads) × (load.threads ≤ 64)

-- the options that were asked for
pub record AreOptionsOf (load : Loading) (options : LoadOptions) : Type 0 where
  pub threads : options.threads ≡ load.threads
  pub hold : options.hold ≡ load.hold
  pub checkpoint : options.checkpoint ≡ load.checkpoint

-- what a fault of opening a journal is reported as, whose disk tells this of its last failed call
abbrev pub open_fault : Option Failure → OpenFault → CommandFault
open_fault told opening.DeviceFault = DeviceFault told
open_fault told (opening.Super fault) = Super fault
open_fault told opening.NeedsRecovery = NeedsRecovery
open_fault told opening.NumbersSpent = NumbersSpent
open_fault told opening.Memory = Memory

-- what a fault of a load is reported as
abbrev pub load_fault : LoadFault → CommandFault
load_fault loading.BlockSize = BlockSize
load_fault (loading.Open fault told) = open_fault told fault
load_fault loading.Memory = Memory
load_fault loading.Accounts = Accounts

-- how a command ends by what the telling of a load answers, and with this hint
abbrev pub end_with_hint : Option Hint → Result ℕ WriteFault → Result ProgramEnd CommandFault
end_with_hint hint (Ok status) = Ok (record { status = status; hint = hint })
end_with_hint hint (Err fault) = Err CommandWriteFault

-- what a load has to say is told in this form: what it did to an image whose last call that failed was this one, or its
-- text's first fault
abbrev pub TellsLoadReport : Option Failure → AnswerForm → LoadReport → Outputs → Outputs
    → Result ProgramEnd CommandFault → Type 0
TellsLoadReport failure form (ReportsLoaded loaded homes) old new end =
    (told : Result ℕ WriteFault) × (end ≡ end_with_hint (load_hint failure homes loaded) told)
    × TellsLoad form (load_hint failure homes loaded) loaded old.out new.out old.err new.err told
TellsLoadReport failure form (ReportsText answer) old new end = Tells (said answer) old new end

-- what a load ended with is told; or it ended with a fault, and then nothing is written, and where that is a failed
-- call of its disk, it is this one
abbrev pub TellsLoadWith : Option Failure → AnswerForm → Result LoadReport CommandFault → Outputs → Outputs
    → Result ProgramEnd CommandFault → Type 0
TellsLoadWith failure form (Ok report) old new end = TellsLoadReport failure form report old new end
TellsLoadWith failure form (Err fault) old new end = (end ≡ Err (with_failure failure fault)) × (new ≡ old)

-- the same of a disk that tells so of its last call that failed
abbrev pub TellsLoadEnd : (Failure → Type 0) → AnswerForm → Result LoadReport CommandFault → Outputs → Outputs
    → Result ProgramEnd CommandFault → Type 0
TellsLoadEnd Told form done old new end =
    (failure : Option Failure) × IfSome failure Told × TellsLoadWith failure form done old new end

module _ {S T : Type 0} {start : Starts S} {other : Starts T} where
  -- a queue was loaded into an open image, and this is the image then: the groups that the load counts are in its
  -- journal, if its files are honest
  pub record LoadsOn (options : LoadOptions) (homes : ℕ) (disk : ImageDisk (FileDisk S start) (FileDisk T other))
      (queue : Queue)
      (new : ImageDisk (FileDisk S start) (FileDisk T other)) (end : Result LoadReport CommandFault) : Type 0 where
    pub loaded : Loaded
    pub answers : AnswersLoad as_files (started_on as_files disk) disk queue.size queue.handles options
        (Ok (loaded, new))
    pub told : end ≡ Ok (ReportsLoaded loaded homes)

  -- a queue was loaded into an open image; or there is no answer, for this, and the image is lost
  abbrev pub LoadsQueue : LoadOptions → ℕ → ImageDisk (FileDisk S start) (FileDisk T other) → Queue
      → Option (ImageDisk (FileDisk S start) (FileDisk T other)) → Result LoadReport CommandFault → Type 0
  LoadsQueue options homes disk queue None end =
      (fault : LoadFault) × AnswersLoad as_files (started_on as_files disk) disk queue.size queue.handles options
      (Err fault)
      × (end ≡ Err (load_fault fault))
  LoadsQueue options homes disk queue (Some new) end = LoadsOn options homes disk queue new end

  -- a queue was loaded, unless this home block that a handle of it touches is the journal's own: then the image is as
  -- it was opened
  abbrev pub LoadsUnless : Option ℕ → LoadOptions → ℕ → ImageDisk (FileDisk S start) (FileDisk T other) → Queue
      → Option (ImageDisk (FileDisk S start) (FileDisk T other)) → Result LoadReport CommandFault → Type 0
  LoadsUnless None options homes disk queue image end = LoadsQueue options homes disk queue image end
  LoadsUnless (Some home) options homes disk queue image end = (image ≡ Some disk) × (end ≡ Err (Extents (Home home)))

  -- the same of the first such home block; or, where the journal is within the image, there was no memory to read the
  -- handles, and the image is as it was opened
  abbrev pub LoadsApart : LoadOptions → ℕ → ImageDisk (FileDisk S start) (FileDisk T other) → Queue
      → Option (ImageDisk (FileDisk S start) (FileDisk T other)) → Result LoadReport CommandFault → Type 0
  LoadsApart options homes disk queue image end =
      LoadsUnless (own_touched disk queue.handles) options homes disk queue image end
      ⊎ ((is_within disk ≡ true) × (image ≡ Some disk) × (end ≡ Err Memory))

  -- the queue of a text was loaded; or the text's first fault is told, and the image is as it was opened
  abbrev pub LoadsRead : AnswerForm → LoadOptions → ℕ → ImageDisk (FileDisk S start) (FileDisk T other)
      → Result Queue QueueFault
      → Option (ImageDisk (FileDisk S start) (FileDisk T other)) → Result LoadReport CommandFault → Type 0
  LoadsRead form options homes disk (Ok queue) image end = LoadsApart options homes disk queue image end
  LoadsRead form options homes disk (Err fault) image end =
      (image ≡ Some disk) × ((answer : CommandOutput) × (queue_fault form fault ≡ Some (said answer))
      × (end ≡ Ok (ReportsText answer)))

  -- the text of the file of this name was not had, or there was no memory for its fault, and the image is as it was
  -- opened; or it was had, and what it holds is loaded or refused
  abbrev pub LoadsText : AnswerForm → List ℕ → LoadOptions → ℕ → ImageDisk (FileDisk S start) (FileDisk T other)
      → Option (ImageDisk (FileDisk S start) (FileDisk T other)) → Result LoadReport CommandFault → Type 0
  LoadsText form name options homes disk image end =
      ((fault : CommandFault) × (image ≡ Some disk) × (end ≡ Err fault) × HasNoText name None fault)
      ⊎ ((text : List ℕ) × IsText None text × LoadsRead form options homes disk (queue_of text) image end)

-- the image was not opened: the number of threads is bad, or it is not, and the image was not opened for this
abbrev pub IsLoadUnopened : {S T : Type 0} → Starts S → Starts T → Loading → Option (List ℕ) → CommandFault → Type 0
IsLoadUnopened start other load input fault =
    (IsBadOption Threads fault × (HasThreads load → ⊥))
    ⊎ (HasThreads load × IsShutAt Refused start other load.image input load.journal load.extents fault)

-- what the journal is that is to be loaded: in a file of its own it was copied out of the image
abbrev pub load_use : Option (List ℕ) → JournalUse
load_use None = LoadInPlace
load_use (Some journal) = LoadCopy

-- a journal that is beside its home blocks was judged by them
abbrev pub JudgesLoad : {D : Type 0} → Disks D → Option (List ℕ) → Bool → D → D → Result Unit CommandFault → Type 0
JudgesLoad G journal within old new judged =
    JudgesBeside Refused G (is_beside journal within) (load_use journal) false old new judged

module _ {S T : Type 0} {start : Starts S} {other : Starts T} where
  -- the text came next; or the image is not the journal's own, and stays as it was judged
  abbrev pub LoadsJudged : AnswerForm → Loading → LoadOptions → ℕ → Result Unit CommandFault
      → ImageDisk (FileDisk S start) (FileDisk T other) → Option (ImageDisk (FileDisk S start) (FileDisk T other))
      → Result LoadReport CommandFault → Type 0
  LoadsJudged form load options homes (Ok done) disk image end = LoadsText form load.file options homes disk image end
  LoadsJudged form load options homes (Err fault) disk image end = (image ≡ Some disk) × (end ≡ Err fault)

  -- an open image was judged, and then loaded
  abbrev pub LoadsOpened : AnswerForm → Loading → LoadOptions → ℕ → ImageDisk (FileDisk S start) (FileDisk T other)
      → Option (ImageDisk (FileDisk S start) (FileDisk T other)) → Result LoadReport CommandFault → Type 0
  LoadsOpened form load options homes disk image end =
      (mid : ImageDisk (FileDisk S start) (FileDisk T other)) × (judged : Result Unit CommandFault)
      × JudgesLoad as_files load.journal (is_within disk) disk mid judged
      × LoadsJudged form load options homes judged mid image end

  -- the image was not opened, and nothing was done; or it was, wherever its journal is, in blocks of the size that its
  -- first bytes say, with this many home blocks, and it was judged, and then the text came
  abbrev pub EndsOfLoad : AnswerForm → Loading → Option (List ℕ)
      → Option (ImageDisk (FileDisk S start) (FileDisk T other))
      → Result LoadReport CommandFault → Type 0
  EndsOfLoad form load input image end =
      ((fault : CommandFault) × (image ≡ None) × (end ≡ Err fault) × IsLoadUnopened start other load input fault)
      ⊎ (HasThreads load × ((disk : ImageDisk (FileDisk S start) (FileDisk T other)) × (homes : ℕ)
      × (found : Option MapSource)
      × IsOpenedAt Refused input load.journal load.extents disk homes found
      × ((options : LoadOptions) × AreOptionsOf load options × LoadsOpened form load options homes disk image end)))

-- the whole run of a load, in this form
abbrev pub RunsLoad : AnswerForm → Loading → Option (List ℕ) → Outputs → Outputs → ProgramEnd → Type 0
RunsLoad form load input old new ended =
    (image : Option FileImage) × (end : Result LoadReport CommandFault) × EndsOfLoad form load input image end
    × ((told : Result ProgramEnd CommandFault) × (mid : Outputs)
    × TellsLoadEnd (image_tells image) form end old mid told
    × Closes form (names_with load.image load.journal) told mid new ended)
