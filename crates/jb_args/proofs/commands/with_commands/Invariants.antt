use Rattle.std.proofs.Common.{◌≡◌, drop, false}
use Rattle.clap.specs.Words.{app_of}
use Rattle.clap.specs.declared.builder.command.Command.TheViews.{out-Command as fields_of}
use Rattle.jb_args.specs.Rows.{with_commands}
use Rattle.jb_args.proofs.commands.with_commands.Given as goal

-- the command line with the commands that are left is the first one with all
abbrev pub invariant-loop-name : goal.invariant-loop-name
invariant-loop-name l = record {
  app : with_commands (app_of l.made) (drop l.name-index l.names) ≡ with_commands (app_of l.fn.jb) l.names;
  own : (fields_of l.made).has_globals ≡ false;
}
