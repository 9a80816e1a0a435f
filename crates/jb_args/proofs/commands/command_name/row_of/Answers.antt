use Rattle.std.proofs.Common.{ap, sym}
use Rattle.jb_args.specs.Rows.{app_named}
use Rattle.jb_args.proofs.commands.command_name.row_of.Goals as goal

pub returns-in-Cost : goal.returns-in-Cost
returns-in-Cost c = ap app_named (sym c.in-Cost.is)

pub returns-in-Plan : goal.returns-in-Plan
returns-in-Plan c = ap app_named (sym c.in-Plan.is)

pub returns-in-Check : goal.returns-in-Check
returns-in-Check c = ap app_named (sym c.in-Check.is)

pub returns-in-Dump : goal.returns-in-Dump
returns-in-Dump c = ap app_named (sym c.in-Dump.is)

pub returns-in-Cat : goal.returns-in-Cat
returns-in-Cat c = ap app_named (sym c.in-Cat.is)

pub returns-in-Format : goal.returns-in-Format
returns-in-Format c = ap app_named (sym c.in-Format.is)

pub returns-in-Load : goal.returns-in-Load
returns-in-Load c = ap app_named (sym c.in-Load.is)

pub returns-in-Recover : goal.returns-in-Recover
returns-in-Recover c = ap app_named (sym c.in-Recover.is)

pub returns-in-Renumber : goal.returns-in-Renumber
returns-in-Renumber c = ap app_named (sym c.in-Renumber.is)

pub returns-in-Widen : goal.returns-in-Widen
returns-in-Widen c = ap app_named (sym c.in-Widen.is)

pub returns-in-Completions : goal.returns-in-Completions
returns-in-Completions c = ap app_named (sym c.in-Completions.is)

pub returns-in-Files : goal.returns-in-Files
returns-in-Files c = ap app_named (sym c.in-Files.is)

pub returns-in-Locks : goal.returns-in-Locks
returns-in-Locks c = ap app_named (sym c.in-Locks.is)

pub returns-in-Settings : goal.returns-in-Settings
returns-in-Settings c = ap app_named (sym c.in-Settings.is)

pub returns-in-Statuses : goal.returns-in-Statuses
returns-in-Statuses c = ap app_named (sym c.in-Statuses.is)

pub returns-in-Diagnostics : goal.returns-in-Diagnostics
returns-in-Diagnostics c = ap app_named (sym c.in-Diagnostics.is)
