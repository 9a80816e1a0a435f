use Rattle.std.proofs.Common.{◌≡◌, [], ◌∷◌, IfOk, subst}
use Rattle.clap.specs.Words.{App, app_of}
use Rattle.jb_args.specs.Rows.{with_commands}
use Rattle.jb_args.specs.declared.commands.command_name.CommandName.TheVariants.{Cat, Check, Completions, Cost, Diagnostics, Dump, Files, Format, Load, Locks, Plan, Recover, Renumber, Settings, Statuses, Widen}
use Rattle.jb_args.proofs.commands.jb_command.Goals as goal

-- the commands in the order of the help, and then the topics, are those of the command line
pub returns-clause-app : goal.returns-clause-app
returns-clause-app c =
    let commands = subst (λ (a : App). app_of c.in_ok-jb.jb ≡ with_commands a
    (Cost ∷ Plan ∷ Check ∷ Dump ∷ Cat ∷ Format ∷ Load ∷ Recover ∷ Renumber ∷ Widen ∷ Completions ∷ []))
    c.in_ok-jb_alone.ensures.app c.in_ok-jb.ensures.app in
    subst (λ (a : App). IfOk c.with_commands-2.result (λ d. app_of d ≡ with_commands a
    (Files ∷ Locks ∷ Settings ∷ Statuses ∷ Diagnostics ∷ []))) commands c.with_commands-2.ensures.app
