use Rattle.std.proofs.Common.{arith}
use Rattle.jb_commands.proofs.files.opening.judge_length.Goals as goal

pub returns-then-blocks-from-clause-shut : goal.returns-then-blocks-from-clause-shut
returns-then-blocks-from-clause-shut c =
    (c.args.sb.now, c.args.blocks, c.requires, omega (arith, c.if-blocks-from.true, c.from.ensures, c.maxlen-maxlen.ensures.value))
