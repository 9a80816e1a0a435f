use Rattle.std.proofs.Common.{length, sym, ap, ◌∙◌}
use Rattle.std.specs.FinMap as map
use Rattle.jb_handle.proofs.words.Words.len.Goals as goal

pub returns-clause-value : goal.returns-clause-value
returns-clause-value c = ap length c.entries.ensures ∙ sym (map.len-entries _)
