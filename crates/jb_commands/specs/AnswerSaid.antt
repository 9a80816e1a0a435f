-- What a command says.
use Rattle.std.specs.Prelude.{ℕ, List, Option}
use Rattle.jb_args.specs.declared.hint.Hint.{Hint}
use Rattle.jb_commands.specs.declared.command_output.CommandOutput.{CommandOutput}

-- an exit status, the bytes for standard output and for standard error, and what a second line is about where there is
-- one
pub record Said : Type 0 where
  pub status : ℕ
  pub out : List ℕ
  pub err : List ℕ
  pub hint : Option Hint

-- what an answer says
abbrev pub said : CommandOutput → Said
said answer =
    record { status = answer.status; out = answer.out.items; err = answer.err.items; hint = answer.hint }
