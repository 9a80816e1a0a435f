-- What a command has to say once its image is closed.
use Rattle.std.specs.Prelude.{◌≡◌, ℕ, List, Option, None, Some, IfSome, Result, Ok, Err}
use Rattle.jb_args.specs.declared.settings.AnswerForm.{AnswerForm}
use Rattle.jb_disk.specs.declared.failure.Failure.{Failure}
use Rattle.jb_disk.specs.declared.file.FileDisk.{FileDisk}
use Rattle.jb_disk.specs.declared.start.Start.{Ghosts as Starts}
use Rattle.jb_image.specs.Files.{as_files}
use Rattle.jb_image.specs.declared.image.ImageDisk.{ImageDisk}
use Rattle.jb_commands.specs.AnswerForms.{text_in}
use Rattle.jb_commands.specs.Change.{renumbered_facts, widened_facts}
use Rattle.jb_commands.specs.Ends.{with_status}
use Rattle.jb_commands.specs.Faults.{with_failure}
use Rattle.jb_commands.specs.Foresee.{foreseen_facts}
use Rattle.jb_commands.specs.Format.{formatted_facts}
use Rattle.jb_commands.specs.Recover.{recovered_facts}
use Rattle.jb_commands.specs.Outputs.{TellsLine}
use Rattle.jb_commands.specs.declared.program_end.ProgramEnd.{ProgramEnd}
use Rattle.jb_commands.specs.declared.fault.CommandFault.{CommandFault}
use Rattle.jb_commands.specs.declared.report.Report.{Report}
use Rattle.jb_commands.specs.declared.report.Report.TheVariants.{Said, Formatted, Foreseen, Recovered, Renumbered}
use Rattle.jb_commands.specs.declared.report.Report.TheVariants.{Widened}

-- it is on standard output in this form, with status 0, or standard output failed part of the way; of a command that
-- has said all itself, its end
abbrev pub TellsReport : AnswerForm → Report → Option (List ℕ) → Option (List ℕ) → Result ProgramEnd CommandFault
    → Type 0
TellsReport form (Said ended) out_old out_new end = (end ≡ Ok ended) × (out_new ≡ out_old)
TellsReport form (Formatted limit) out_old out_new end =
    TellsLine (text_in form (formatted_facts limit)) out_old out_new end
TellsReport form (Recovered done found) out_old out_new end =
    TellsLine (text_in form (recovered_facts found done)) out_old out_new end
TellsReport form (Foreseen told list found) out_old out_new end =
    TellsLine (text_in form (foreseen_facts list found told)) out_old out_new end
TellsReport form (Renumbered done) out_old out_new end =
    TellsLine (text_in form (renumbered_facts done)) out_old out_new end
TellsReport form (Widened done) out_old out_new end = TellsLine (text_in form (widened_facts done)) out_old out_new end

module _ {S T : Type 0} {start : Starts S} {other : Starts T} where
  -- what an image in files tells of its last call that failed; one that is not open tells nothing
  abbrev pub image_tells : Option (ImageDisk (FileDisk S start) (FileDisk T other)) → Failure → Type 0
  image_tells None failure = ⊥
  image_tells (Some disk) failure = as_files.tells disk failure

-- what a command ended with is reported in this form; or it ended with a fault, and then nothing is written, and where
-- that is a failed call of its disk, it is this one
abbrev pub TellsWith : Option Failure → AnswerForm → Result Report CommandFault → Option (List ℕ) → Option (List ℕ)
    → Result ProgramEnd CommandFault → Type 0
TellsWith failure form (Ok report) out_old out_new end = TellsReport form report out_old out_new end
TellsWith failure form (Err fault) out_old out_new end =
    (end ≡ Err (with_failure failure fault)) × (out_new ≡ out_old)

-- the same of a disk that tells so of its last call that failed
abbrev pub TellsEnd : (Failure → Type 0) → AnswerForm → Result Report CommandFault → Option (List ℕ) → Option (List ℕ)
    → Result ProgramEnd CommandFault → Type 0
TellsEnd Told form done out_old out_new end =
    (failure : Option Failure) × IfSome failure Told × TellsWith failure form done out_old out_new end

-- the end of a command that has said all itself, and ends so
abbrev pub said_end : Result ProgramEnd CommandFault → Result Report CommandFault
said_end (Ok ended) = Ok (Said ended)
said_end (Err fault) = Err fault

-- the end of a command that has said all itself, with this status
abbrev pub status_end : Result ℕ CommandFault → Result Report CommandFault
status_end (Ok status) = Ok (Said (with_status status))
status_end (Err fault) = Err fault
