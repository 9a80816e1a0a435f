-- What a whole run did: what it took from its input, what it wrote, and how it ended.
use Rattle.std.specs.Prelude.{◌≡◌, ◌⊎◌, ℕ, Bool, false, List, Option, Some, None, Result, Ok, Err, codes}
use Rattle.std.specs.Str.{bytes_eq}
use Rattle.jb_disk.specs.declared.failure.Failure.{Failure}
use Rattle.jb_disk.specs.declared.file.FileDisk.{FileDisk}
use Rattle.jb_disk.specs.declared.start.Start.{Ghosts as Starts}
use Rattle.jb_format.specs.Renumber.{IsRenumbering, Renumbers, RenumbersAs}
use Rattle.jb_format.specs.Widen.{IsWidened, Widens, WidensAs}
use Rattle.jb_text.specs.Puts.{PutsPart}
use Rattle.jb_image.specs.Files.{FileImage}
use Rattle.jb_image.specs.declared.image.ImageDisk.{ImageDisk}
use Rattle.jb_args.specs.Advice.{SystemSaid}
use Rattle.jb_args.specs.PlainCommand.{Asked}
use Rattle.jb_args.specs.declared.settings.AnswerForm.{AnswerForm}
use Rattle.jb_args.specs.declared.settings.AnswerForm.TheVariants.{Json, Text}
use Rattle.jb_json.specs.Objects.{json_line}
use Rattle.jb_args.specs.PlainCommand.Asked.{AsksCat, AsksCheck, AsksCost, AsksDump, AsksFormat, AsksPlan, AsksRecover}
use Rattle.jb_args.specs.PlainCommand.Asked.{AsksRenumber, AsksWiden}
use Rattle.jb_commands.specs.Check.{CheckSays}
use Rattle.jb_commands.specs.Cost.{cost_said}
use Rattle.jb_commands.specs.Limits.{cert_limit}
use Rattle.jb_commands.specs.Dump.{reads_dump}
use Rattle.jb_commands.specs.DumpForm.{EndsOfDumpIn}
use Rattle.jb_commands.specs.ChangePlace.{EndsOfChange}
use Rattle.jb_commands.specs.Files.{EndsOfFormat}
use Rattle.jb_commands.specs.JournalPlace.{EndsOfCat, EndsOfRecover}
use Rattle.jb_commands.specs.Plan.{PlanSays}
use Rattle.jb_commands.specs.AnswerSaid.{Said}
use Rattle.jb_commands.specs.Outputs.{Outputs, Tells}
use Rattle.jb_commands.specs.Ends.{of_fault}
use Rattle.jb_commands.specs.FaultReports.{fault_facts}
use Rattle.jb_commands.specs.Reports.{TellsEnd, image_tells, said_end, status_end}
use Rattle.jb_commands.specs.ListText.{reads_list}
use Rattle.jb_commands.specs.Faults.{line_of}
use Rattle.jb_commands.specs.Lines.{PairNames, names_of}
use Rattle.jb_commands.specs.Texts.{HasNoText, HasNoTextWithin, IsText, IsTextWithin, known_behind}
use Rattle.jb_commands.specs.declared.program_end.ProgramEnd.{ProgramEnd}
use Rattle.jb_commands.specs.declared.fault.CommandFault.{CommandFault}
use Rattle.jb_commands.specs.declared.report.Report.{Report}
use Rattle.jb_commands.specs.declared.report.Report.TheVariants.{Renumbered as ReportsRenumbered}
use Rattle.jb_commands.specs.declared.report.Report.TheVariants.{Widened as ReportsWidened}

-- a command said what it has to say of the text after this name, or ended without a word where there was no text or no
-- memory
abbrev pub EndsAsSaid : (List ℕ → Said → Type 0) → List ℕ → Option (List ℕ) → Outputs → Outputs
    → Result ProgramEnd CommandFault → Type 0
EndsAsSaid Says name input old new end =
    ((text : List ℕ) × (words : Said) × IsText (known_behind name input) text × Says text words
    × Tells words old new end)
    ⊎ ((fault : CommandFault) × (end ≡ Err fault) × HasNoText name (known_behind name input) fault × (new ≡ old))

-- a command over a queue text and a certificate, of two files, told what it has to say of them, or ended without a word
-- for want of one of them or of memory
abbrev pub EndsOfTwo : (List ℕ → List ℕ → Said → Type 0) → List ℕ → List ℕ → Outputs → Outputs
    → Result ProgramEnd CommandFault → Type 0
EndsOfTwo Says name other old new end =
    ((text text' : List ℕ) × (words : Said) × IsText None text × IsTextWithin cert_limit None text'
    × Says text text' words × Tells words old new end)
    ⊎ ((fault : CommandFault) × (end ≡ Err fault)
    × (HasNoText name None fault ⊎ HasNoTextWithin cert_limit other None fault) × (new ≡ old))

-- the part of that which comes after the queue text: what is said is said of the certificate
abbrev pub EndsOfClaim : (List ℕ → Said → Type 0) → List ℕ → Outputs → Outputs → Result ProgramEnd CommandFault → Type 0
EndsOfClaim Says other old new end =
    ((claim : List ℕ) × (words : Said) × IsTextWithin cert_limit None claim × Says claim words
    × Tells words old new end)
    ⊎ ((fault : CommandFault) × (end ≡ Err fault) × HasNoTextWithin cert_limit other None fault × (new ≡ old))

-- what is said of a fault on standard error, as far as that took it: its line, or its JSON where the system
-- says this, over the files of these names where they are two
abbrev pub TellsFault : AnswerForm → Option PairNames → CommandFault → Option (List ℕ) → Option (List ℕ) → Type 0
TellsFault Text names fault err_old err_new = PutsPart err_old err_new (line_of names fault)
TellsFault Json names fault err_old err_new =
    (said : SystemSaid) × PutsPart err_old err_new (json_line (fault_facts names said fault))

-- the program's end, and what is said of a command that ended without an answer
abbrev pub Closes : AnswerForm → Option PairNames → Result ProgramEnd CommandFault → Outputs → Outputs → ProgramEnd
    → Type 0
Closes form names (Ok told) old new ended = (ended ≡ told) × (new ≡ old)
Closes form names (Err fault) old new ended =
    (ended ≡ of_fault fault) × (new.out ≡ old.out) × TellsFault form names fault old.err new.err

-- whether a command reads standard input: as the text, journal or list of extents after `-`, and for nothing else
abbrev pub reads_input : Asked → Bool
reads_input (AsksCost file) = bytes_eq file (codes "-")
reads_input (AsksPlan file) = bytes_eq file (codes "-")
reads_input (AsksDump file words) = reads_dump file words
reads_input (AsksCat name words) = reads_list words.extents
reads_input (AsksRecover name words) = reads_list words.extents
reads_input (AsksRenumber name extents) = reads_list extents
reads_input (AsksWiden name extents) = reads_list extents
reads_input _ = false

module _ {S T : Type 0} {start : Starts S} {other : Starts T} where
  -- a command over texts has said all itself, and ends so
  abbrev pub SaidAll : (Result ProgramEnd CommandFault → Type 0)
      → Option (ImageDisk (FileDisk S start) (FileDisk T other)) → Result Report CommandFault → Type 0
  SaidAll Told image end = (told : Result ProgramEnd CommandFault) × Told told × (image ≡ None) × (end ≡ said_end told)

  -- the same of a command that ends with a status
  abbrev pub DumpedAll : (Result ℕ CommandFault → Type 0) → Option (ImageDisk (FileDisk S start) (FileDisk T other))
      → Result Report CommandFault → Type 0
  DumpedAll Told image end = (told : Result ℕ CommandFault) × Told told × (image ≡ None) × (end ≡ status_end told)

  -- how the command that the words ask for ends: what it has written by then, the image that it was over, as it has
  -- left it, and what it has to say
  abbrev pub EndsAsked : AnswerForm → Asked → Option (List ℕ) → Outputs → Outputs
      → Option (ImageDisk (FileDisk S start) (FileDisk T other)) → Result Report CommandFault → Type 0
  EndsAsked form (AsksCost file) input old new image end =
      SaidAll (EndsAsSaid (λ text words. cost_said form text ≡ Some words) file input old new) image end
  EndsAsked form (AsksPlan file) input old new image end =
      SaidAll (EndsAsSaid (PlanSays form) file input old new) image end
  EndsAsked form (AsksCheck file cert) input old new image end =
      SaidAll (EndsOfTwo (CheckSays form) file cert old new) image end
  EndsAsked form (AsksDump file words) input old new image end =
      DumpedAll (EndsOfDumpIn start other form words file input old.out new.out) image end × (new.err ≡ old.err)
  EndsAsked form (AsksFormat name options) input old new image end = EndsOfFormat name options image end × (new ≡ old)
  EndsAsked form (AsksCat name words) input old new image end =
      EndsOfCat name words input old.out new.out image end × (new.err ≡ old.err)
  EndsAsked form (AsksRecover name words) input old new image end =
      EndsOfRecover name words input image end × (new ≡ old)
  EndsAsked form (AsksRenumber name extents) input old new image end =
      EndsOfChange Renumbers IsRenumbering RenumbersAs ReportsRenumbered name extents input image end × (new ≡ old)
  EndsAsked form (AsksWiden name extents) input old new image end =
      EndsOfChange Widens IsWidened WidensAs ReportsWidened name extents input image end × (new ≡ old)

-- what a command has to say, once its image is closed, which tells so of its last call that failed
abbrev pub TellsDone : (Failure → Type 0) → AnswerForm → Result Report CommandFault → Outputs → Outputs
    → Result ProgramEnd CommandFault → Type 0
TellsDone Told form end old new told = TellsEnd Told form end old.out new.out told × (new.err ≡ old.err)

-- the whole run of the command that the words ask for, in this form
abbrev pub Runs : AnswerForm → Asked → Option (List ℕ) → Outputs → Outputs → ProgramEnd → Type 0
Runs form asked input old new ended =
    (image : Option FileImage) × (end : Result Report CommandFault) × (done : Outputs)
    × EndsAsked form asked input old done image end
    × ((told : Result ProgramEnd CommandFault) × (mid : Outputs) × TellsDone (image_tells image) form end done mid told
    × Closes form (names_of asked) told mid new ended)
