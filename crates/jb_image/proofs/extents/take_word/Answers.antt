use Rattle.std.proofs.Common.{rules, sym}
use Rattle.jb_image.proofs.Attached.{attached-count, attached-forward}
use Rattle.jb_image.proofs.extents.take_word.Goals as goal

pub returns-in_ok-put-in-Some-Blocks-clause-counted : goal.returns-in_ok-put-in-Some-Blocks-clause-counted
returns-in_ok-put-in-Some-Blocks-clause-counted c =
    rw (c.in_ok-put-in-Some-Blocks.ensures.put, c.saturating_add.ensures, c.blocks-in-Some-Blocks.ensures, c.requires.counted)
    (sym (attached-count 0 c.args.list.now.items c.in-Some-Blocks.extent c.requires.forward (search rules)))

pub returns-in_ok-put-in-Some-Blocks-clause-forward : goal.returns-in_ok-put-in-Some-Blocks-clause-forward
returns-in_ok-put-in-Some-Blocks-clause-forward c =
    rw c.in_ok-put-in-Some-Blocks.ensures.put (attached-forward c.args.list.now.items c.in-Some-Blocks.extent c.requires.forward (search rules))
