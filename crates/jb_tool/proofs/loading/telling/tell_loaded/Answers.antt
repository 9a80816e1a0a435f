use Rattle.std.proofs.Common.{sym, ap, ◌∙◌}
use Rattle.jb_text.proofs.PartByPart.{partly}
use Rattle.jb_tool.specs.LoadLines.{load_err, status_if}
use Rattle.jb_tool.proofs.loading.telling.tell_loaded.Goals as goal

pub returns-then-is_whole : goal.returns-then-is_whole
returns-then-is_whole g c = (
  c.in_ok-put_told.ensures,
  partly _ _ (load_err c.args.form c.args.loaded.now) c.put_faults-ignored.result c.put_faults-ignored.ensures,
  ap status_if (sym c.if-is_whole.true ∙ c.is_whole.ensures),
)

pub returns-else-is_whole : goal.returns-else-is_whole
returns-else-is_whole g c = (
  c.in_ok-put_told.ensures,
  partly _ _ (load_err c.args.form c.args.loaded.now) c.put_faults-ignored.result c.put_faults-ignored.ensures,
  ap status_if (sym c.if-is_whole.false ∙ c.is_whole.ensures),
)
