use Rattle.std.proofs.Common.{◌∙◌, ◌+◌, ap, drop, get_or}
use Rattle.clap.specs.Words.{app_of}
use Rattle.jb_args.specs.Rows.{app_named, with_commands}
use Rattle.jb_args.specs.declared.commands.command_name.CommandName.TheVariants.{Cost}
use Rattle.jb_args.proofs.Rows.{next_command}
use Rattle.jb_args.proofs.commands.with_commands.Goals as goal

pub loop-name-preserved : goal.loop-name-preserved
loop-name-preserved c =
    let command = app_named (get_or c.args.names.now c.loop-name.name-index Cost) in
    record {
      app = ap (λ a. with_commands a (drop (c.loop-name.name-index + 1) c.args.names.now)) (c.in_ok-made.ensures.app command c.command_of.ensures.app)
          ∙ next_command (app_of c.loop-name.made) c.args.names.now c.loop-name.name-index _ c.loop-name-test.true
          ∙ c.loop-name.invariant.app;
      own = c.in_ok-made.ensures.own;
    }
