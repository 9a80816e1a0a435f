use Rattle.std.proofs.Common.{option_copied}
use Rattle.jb_block.specs.Size.{bytes_of}
use Rattle.jb_handle.specs.Word.{WordMap}
use Rattle.jb_text.specs.Parts.{words_in}
use Rattle.jb_text.proofs.LineLeft.{left}
use Rattle.jb_queue.proofs.Ops.{ReadTo}
use Rattle.jb_queue.proofs.queue_lines.check_ops.Given as goal

-- the words of the line are read up to the rest
abbrev pub invariant-loop-rest : goal.invariant-loop-rest
invariant-loop-rest l = (had : WordMap) × ReadTo (bytes_of l.bs) l.fn.text had (words_in (option_copied l.rest))

abbrev pub decreases-loop-rest : goal.decreases-loop-rest
decreases-loop-rest l = left l.rest
