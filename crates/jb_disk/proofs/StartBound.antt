-- What the bound `S: Start` asks: nothing of the contents. So what is proved for every `S` holds of the code of a program, which names
-- `Unknown`, with any contents in the place of none.
use Rattle.std.proofs.Common.{ℕ}
use seplogic.Ra.Ura.{Ura}
use mir.Syntax.{Dict}
use prog.Model.{Model}
use types.Logic.{Logic}
use contract.Running.{Running}
use Rattle.jb_disk.specs.Image.{Image}
use Rattle.jb_disk.specs.contracts.start.Start.TheBound.{Met}
use Rattle.jb_disk.specs.contracts.start.Unknown.{the_row as Unknown}

module _ {M : Type 1} {𝓤 : Ura M} (𝓛 : Logic 𝓤) (𝓜 : Model 𝓤 𝓛.H) (𝓡 : Running 𝓤 𝓛.H 𝓜) where
  -- `Unknown` meets it, whatever a file held after each call
  pub any_content : (content : ℕ → Image) (methods : Dict) → Met 𝓛 𝓜 𝓡 𝓡.env Unknown (record { content = content }) methods
  any_content content methods = record {}
