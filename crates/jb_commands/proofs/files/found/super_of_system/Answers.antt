use Rattle.std.proofs.Common.{rules, ap, ◌∙◌, Some}
use Rattle.jb_commands.specs.FoundWithin.{IsTried, super_chosen}
use Rattle.jb_commands.proofs.FoundSuper.{found-within, not-found}
use Rattle.jb_commands.proofs.files.found.super_of_system.Goals as goal

pub returns-in-Ok-clause-shut : goal.returns-in-Ok-clause-shut
returns-in-Ok-clause-shut g c =
    let tried : IsTried c.chosen.result = (Some c.args.system, c.requires.read, (c.in-Some.size, search rules, (c.in-Ok.tried, c.in-Ok.ensures.tried, c.chosen.ensures.is ∙ ap super_chosen c.with.ensures.is))) in
    not-found c.chosen.result tried c.chosen.ensures.refused

pub returns-in-Ok-clause-found : goal.returns-in-Ok-clause-found
returns-in-Ok-clause-found g c =
    let tried : IsTried c.chosen.result = (Some c.args.system, c.requires.read, (c.in-Some.size, search rules, (c.in-Ok.tried, c.in-Ok.ensures.tried, c.chosen.ensures.is ∙ ap super_chosen c.with.ensures.is))) in
    found-within c.chosen.result tried c.chosen.ensures.says
