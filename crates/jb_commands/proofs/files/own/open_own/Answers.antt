use Rattle.std.proofs.Common.{ap, ◌∙◌}
use Rattle.jb_image.specs.Lists.{list_of}
use Rattle.jb_commands.proofs.ComparedLists.{own-opened}
use Rattle.jb_commands.proofs.files.own.open_own.Goals as goal

pub returns-in-Ok-clause-opened : goal.returns-in-Ok-clause-opened
returns-in-Ok-clause-opened g c =
    let made = c.of-in-Ok.ensures in
    own-opened c.args.sums g.row.T.Denot g.T.Start _ c.args.disk c.find_journal.new.disk c.counted-whole.result.0 c.of-in-Ok.result c.counted-whole.result.1 c.requires.measured c.in-Ok.ensures.finds c.counted-whole.ensures.disk
    made.disk (ap list_of made.extents ∙ c.of.ensures) (made.journal ∙ c.from-maxlen.ensures ∙ c.maxlen.ensures.value) c.counted-whole.ensures.homes

pub returns-in-Err-clause-shut : goal.returns-in-Err-clause-shut
returns-in-Err-clause-shut g c = (c.find_journal.new.disk, (c.args.disk, c.requires.measured, c.in-Err.ensures.finds))
