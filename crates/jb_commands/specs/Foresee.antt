-- How `jb recover --dry-run` ends on a disk.
use Rattle.std.specs.Prelude.{ℕ, Bool, if◌then◌else◌, List, [], ◌∷◌, ◌++◌, Option, Some, None, Result, Ok, Err}
use Rattle.std.specs.Prelude.{codes}
use Rattle.jb_ext.specs.declared.choosing.MapSource.{MapSource}
use Rattle.jb_image.specs.declared.extents_fault.ExtentsFault.TheVariants.{Home}
use Rattle.jb_json.specs.Facts.{Fact, Listed}
use Rattle.jb_image.specs.Images.{own_home}
use Rattle.jb_image.specs.declared.image.ImageDisk.{ImageDisk}
use Rattle.jb_recover.specs.declared.checked_fault.CheckedFault.{CheckedFault}
use Rattle.jb_recover.specs.declared.recovered.Foreseen.{Foreseen}
use Rattle.jb_commands.specs.Faults.{recover_fault}
use Rattle.jb_commands.specs.Recover.{recovered_facts}
use Rattle.jb_commands.specs.declared.fault.CommandFault.{CommandFault}
use Rattle.jb_commands.specs.declared.fault.CommandFault.TheVariants.{Extents as InExtents}
use Rattle.jb_commands.specs.declared.report.Report.{Report}
use Rattle.jb_commands.specs.declared.report.Report.TheVariants.{Foreseen as ReportsForeseen}

-- what is reported of a recovery beforehand: what it reports, and the home blocks where they are asked for
abbrev pub foreseen_facts : Bool → Option MapSource → Foreseen → List Fact
foreseen_facts list found told =
    recovered_facts found told.counts
    ++ (if list then Listed (codes "homes") (codes "home") told.homes.items ∷ [] else [])

-- what was foreseen of an image, by the first home block that would be written and is the journal's own, if there is
-- one
abbrev pub apart_end : Option ℕ → Option MapSource → Bool → Foreseen → Result Report CommandFault
apart_end None found list told = Ok (ReportsForeseen told list found)
apart_end (Some home) found list told = Err (InExtents (Home home))

-- what was foreseen of an image, as the command's end: its text, with what said where the journal is; or its fault with
-- the number of home blocks; or that a home block that would be written is one of the journal's own
abbrev pub foreseen_end : {D E : Type 0} → ImageDisk D E → ℕ → Option MapSource → Bool → Result Foreseen CheckedFault
    → Result Report CommandFault
foreseen_end disk homes found list (Ok told) = apart_end (own_home disk told.homes.items) found list told
foreseen_end disk homes found list (Err fault) = Err (recover_fault (Some homes) fault)

-- whether a recovery may write, by the first home block that it would write and is the journal's own, if there is one
abbrev pub apart_checked : Option ℕ → Result Unit CommandFault
apart_checked None = Ok tt
apart_checked (Some home) = Err (InExtents (Home home))

-- whether a recovery of an image may write, by what was foreseen
abbrev pub own_checked : {D E : Type 0} → ImageDisk D E → ℕ → Result Foreseen CheckedFault → Result Unit CommandFault
own_checked disk homes (Ok told) = apart_checked (own_home disk told.homes.items)
own_checked disk homes (Err fault) = Err (recover_fault (Some homes) fault)
