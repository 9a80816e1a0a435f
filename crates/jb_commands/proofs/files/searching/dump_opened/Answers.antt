use Rattle.std.proofs.Common.{sym, ◌∙◌}
use Rattle.jb_commands.proofs.files.searching.dump_opened.Goals as goal

pub returns-then-is_searched : goal.returns-then-is_searched
returns-then-is_searched g c =
    rw (sym c.is_searched.ensures ∙ c.if-is_searched.true) (record { dumps = rw c.choice_of.ensures at c.dump_searched.ensures.dumps })

pub returns-else-is_searched : goal.returns-else-is_searched
returns-else-is_searched g c =
    rw (sym c.is_searched.ensures ∙ c.if-is_searched.false) (record { dumps = rw c.choice_of-else-is_searched.ensures at c.dump_disk.ensures.dumps })
