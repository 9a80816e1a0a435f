use Rattle.std.proofs.Common.{Some, ap, sym, ◌∙◌}
use Rattle.jb_handle.specs.HeldChanges.{len_in}
use Rattle.jb_handle.proofs.word.Word.len.Goals as goal

pub returns-in-Copy : goal.returns-in-Copy
returns-in-Copy c = ap Some c.len.ensures ∙ sym (ap len_in c.in-Copy.is)

pub returns-in-Free : goal.returns-in-Free
returns-in-Free c = sym (ap len_in c.in-Free.is)
