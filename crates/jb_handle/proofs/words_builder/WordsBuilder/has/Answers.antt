use Rattle.std.proofs.Common.{is_some, sym, ap, ◌∙◌}
use Rattle.jb_handle.proofs.RisingHomes.{view-get}
use Rattle.jb_handle.proofs.Trees.{find-looks}
use Rattle.jb_handle.proofs.words_builder.WordsBuilder.has.Goals as goal

pub returns : goal.returns
returns c = c.contains_key.ensures ∙ ap is_some (sym (view-get _ _ c.self.view_is c.self.invariant.rising c.args.home ∙ find-looks c.args.home c.self.inside.tree.entries))
