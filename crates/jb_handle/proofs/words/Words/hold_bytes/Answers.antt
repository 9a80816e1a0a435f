use Rattle.std.proofs.Common.{ap, sym, ◌∙◌, nat_cmp}
use Rattle.std.specs.FinMap as map
use Rattle.jb_handle.proofs.words.Words.hold_bytes.Goals as goal

pub returns : goal.returns
returns c = rw (sym (ap map.entries c.self.view_is) ∙ map.entries-from_sorted nat_cmp c.self.inside.entries.items c.self.invariant.rising) c.self.invariant.bytes
