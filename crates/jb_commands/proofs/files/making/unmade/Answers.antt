use Rattle.std.proofs.Common.{ℕ, List}
use Rattle.jb_commands.specs.Files.{IsNotMade, IsUnnamed}
use Rattle.jb_commands.specs.declared.fault.CommandFault.{CommandFault}
use Rattle.jb_commands.specs.declared.fault.CommandFault.TheVariants.{DeviceFault}
use Rattle.jb_commands.proofs.files.making.unmade.Goals as goal

not-named : (name : List ℕ) (fault : CommandFault) → IsUnnamed name fault → IsNotMade name fault
not-named name (DeviceFault failure) is = tt
not-named name _ is = is

pub returns-in-Image : goal.returns-in-Image
returns-in-Image c = not-named c.args.name.now c.unnamed.result c.unnamed.ensures
