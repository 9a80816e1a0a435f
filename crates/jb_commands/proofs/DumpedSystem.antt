-- A dump of a file that begins with no journal.
use Rattle.std.proofs.Common.{◌≡◌, ◌∙◌, ℕ, Bool, true, List, Option, None, Some, Result, sym, subst, inr}
use Rattle.std.specs.Prelude.{◌⊎◌, is_some}
use Rattle.std.proofs.lemmas.Bool.{false≢true}
use Rattle.jb_args.specs.PlainCommand.{DumpWords}
use Rattle.jb_disk.specs.declared.start.Start.{Ghosts as Starts}
use Rattle.jb_dump.specs.declared.dump_filter.DumpFilter.{DumpFilter}
use Rattle.jb_ext.specs.declared.system.FileSystem.{FileSystem}
use Rattle.jb_commands.specs.Dump.{DumpsSaying, choice_of, is_unbegun}
use Rattle.jb_commands.specs.DumpPlace.{DumpsOpen, DumpsPlaced}
use Rattle.jb_commands.specs.FoundWithin.{IsReadOf}
use Rattle.jb_commands.specs.declared.fault.CommandFault.{CommandFault}
use Rattle.jb_commands.specs.declared.fault.CommandFault.TheVariants.{Memory}
use Rattle.std.specs.Prelude.{Err}

-- a file system that is known to be there was read
pub system-known : (found : Option FileSystem) (is : Bool) → is ≡ is_some found → IsReadOf found → is ≡ true → (system : FileSystem) × IsReadOf (Some system)
system-known None is e read t = absurd (false≢true (sym e ∙ t))
system-known (Some system) is e read t = (system, read)

module _ {S T : Type 0} (start : Starts S) (other : Starts T) where
  -- no journal began there, and what follows is the end
  pub dumped-after : (words : DumpWords) (name : List ℕ) (input before after out_old out_mid out_new : Option (List ℕ)) (filter : DumpFilter) (first end : Result ℕ CommandFault) (is : Bool)
      → filter ≡ choice_of words → DumpsSaying filter before after out_old out_mid first → is ≡ is_unbegun first → is ≡ true
      → (((system : FileSystem) × IsReadOf (Some system)) × DumpsPlaced start other words name input out_mid out_new end) ⊎ ((end ≡ Err Memory) × (out_new ≡ out_mid))
      → DumpsOpen start other words name input out_old out_new end
  dumped-after words name input before after out_old out_mid out_new filter first end is chosen dumps said t more =
      inr (before, after, out_mid, first, subst (λ c. DumpsSaying c before after out_old out_mid first) chosen dumps, sym said ∙ t, more)
