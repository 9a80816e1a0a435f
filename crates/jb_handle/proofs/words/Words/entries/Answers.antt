use Rattle.std.proofs.Common.{sym, ap, ◌∙◌, nat_cmp}
use Rattle.std.specs.FinMap as map
use Rattle.jb_handle.proofs.words.Words.entries.Goals as goal

pub returns : goal.returns
returns c = c.deref.ensures.value ∙ sym (map.entries-from_sorted nat_cmp _ c.self.invariant.rising) ∙ ap map.entries c.self.view_is
