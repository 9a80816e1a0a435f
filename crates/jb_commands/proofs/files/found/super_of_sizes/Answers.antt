use Rattle.std.proofs.Common.{rules, ap, ◌∙◌, None}
use Rattle.jb_commands.specs.FoundWithin.{IsTried, super_chosen, with_try}
use Rattle.jb_commands.proofs.FoundSuper.{not-found}
use Rattle.jb_commands.proofs.files.found.super_of_sizes.Goals as goal

pub returns-clause-shut : goal.returns-clause-shut
returns-clause-shut g c =
    let is = c.chosen.ensures.is ∙ ap super_chosen (c.with-3.ensures.is ∙ ap (λ before. with_try before c.in_ok-four.four) (c.with-2.ensures.is ∙ ap (λ before. with_try before c.in_ok-two.two) c.with.ensures.is)) in
    let tried : IsTried c.chosen.result = (None, c.requires.read, (c.in_ok-one.one, c.in_ok-two.two, c.in_ok-four.four, c.in_ok-one.ensures.tried, c.in_ok-two.ensures.tried, c.in_ok-four.ensures.tried, is)) in
    not-found c.chosen.result tried c.chosen.ensures.refused
