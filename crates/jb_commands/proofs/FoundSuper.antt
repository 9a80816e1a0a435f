-- What is known of the superblock that was found at the first of the extents.
use Rattle.std.proofs.Common.{ℕ, List, Option, Result, Ok, Err, inr}
use Rattle.std.specs.Prelude.{IfErr, IfOk}
use Rattle.jb_map.specs.declared.extent.Extent.{Extent}
use Rattle.jb_image.specs.declared.extents_fault.ExtentsFault.TheVariants.{BlockSizes, Broken, Front, Home, Long, NoJournal, Nothing, Other, Overlap, PastEnd, Short}
use Rattle.jb_super.specs.Superblock.{Superblock}
use Rattle.jb_commands.specs.Files.{SaysSuper}
use Rattle.jb_commands.specs.FoundWithin.{IsFoundWithin, IsNotFound, IsSaidSo, IsTried}
use Rattle.jb_commands.specs.JournalPlace.{IsShutListed, IsShutWithin}
use Rattle.jb_commands.specs.ListText.{IsListOf}
use Rattle.jb_commands.specs.OpenRefusals.{IsFoundShut, IsSpreadShut}
use Rattle.jb_commands.specs.declared.fault.CommandFault.{CommandFault}
use Rattle.jb_commands.specs.declared.files.shut.FileFault.TheVariants.{InUse, Memory, MountsUnknown, Super, Unread}
use Rattle.jb_commands.specs.declared.files.shut.WithinFault.{WithinFault}
use Rattle.jb_commands.specs.declared.files.shut.WithinFault.TheVariants.{Extents, File, List as NoList, System}

-- why none was
pub not-found : (answer : Result Superblock WithinFault) → IsTried answer → IfErr answer (λ fault. IsSaidSo (Err fault)) → IfErr answer IsNotFound
not-found (Ok sb) tried said = tt
not-found (Err NoList) tried said = absurd said
not-found (Err (File (Super fault))) tried said = (said, tried)
not-found (Err (File (Unread code))) tried said = tt
not-found (Err (File (InUse holder))) tried said = tt
not-found (Err (File MountsUnknown)) tried said = tt
not-found (Err (File Memory)) tried said = tt
not-found (Err (System fault)) tried said = absurd said
not-found (Err (Extents fault)) tried said = (said, tried)

-- so these extents hold no journal
pub spread-shut : (es : List Extent) (fault : WithinFault) → IsFoundShut fault → IsSpreadShut es fault
spread-shut es NoList shut = absurd shut
spread-shut es (File fault) shut = shut
spread-shut es (System fault) shut = shut
spread-shut es (Extents NoJournal) shut = inr shut.1
spread-shut es (Extents (BlockSizes one other)) shut = shut.1
spread-shut es (Extents (Overlap block)) shut = absurd shut.0
spread-shut es (Extents (PastEnd block)) shut = absurd shut.0
spread-shut es (Extents (Short blocks)) shut = absurd shut.0
spread-shut es (Extents (Long blocks)) shut = absurd shut.0
spread-shut es (Extents (Front block)) shut = absurd shut.0
spread-shut es (Extents (Home home)) shut = absurd shut.0
spread-shut es (Extents Nothing) shut = absurd shut.0
spread-shut es (Extents (Other place)) shut = absurd shut.0
spread-shut es (Extents (Broken place)) shut = absurd shut.0

-- nor does the list that a word says
pub listed-shut : {V : Type 0} (name word list : List ℕ) (input : Option (List ℕ)) (result : Result V CommandFault) → IsListOf input word list → IfErr result (IsShutWithin name list) → IfErr result (IsShutListed name input word)
listed-shut name word list input (Ok value) is shut = tt
listed-shut name word list input (Err fault) is shut = inr (list, is, shut)

-- which one was
pub found-within : (answer : Result Superblock WithinFault) → IsTried answer → IfOk answer SaysSuper → IfOk answer IsFoundWithin
found-within (Ok sb) tried says = record { says = says; chosen = tried }
found-within (Err fault) tried says = tt
