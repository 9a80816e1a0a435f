use Rattle.std.proofs.Common.{arith}
use Rattle.std.proofs.lemmas.Str.Pattern.{strip_prefix_char}
use Rattle.jb_commands.proofs.ListWords.{behind-from}
use Rattle.jb_commands.proofs.files.listed.file_behind.Goals as goal

pub returns : goal.returns
returns c = behind-from c.args.word.now c.strip_prefix.result (strip_prefix_char 64 c.args.word.now c.strip_prefix.result c.strip_prefix.ensures.cases (omega arith))
