use Rattle.std.proofs.Common.{rules, ap, sym, ◌∙◌}
use Rattle.std.specs.Option.{option_copied}
use Rattle.jb_image.proofs.Attached.{goes-on, not-on}
use Rattle.jb_image.proofs.extents.goes_on.Goals as goal

pub returns-then-extent-gt0 : goal.returns-then-extent-gt0
returns-then-extent-gt0 c =
    goes-on c.args.list.now c.in-Some.last.now c.args.extent (sym c.last.ensures.value ∙ ap option_copied c.in-Some.is) c.if-extent-gt0.true

pub returns-else-extent-gt0 : goal.returns-else-extent-gt0
returns-else-extent-gt0 c =
    not-on c.args.list.now c.in-Some.last.now c.args.extent (sym c.last.ensures.value ∙ ap option_copied c.in-Some.is) (search rules)
