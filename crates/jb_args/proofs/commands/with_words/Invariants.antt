use Rattle.std.proofs.Common.{◌≡◌, drop, false}
use Rattle.clap.specs.Words.{app_of}
use Rattle.clap.specs.declared.builder.command.Command.TheViews.{out-Command as fields_of}
use Rattle.jb_args.specs.Rows.{with_row_words}
use Rattle.jb_args.proofs.commands.with_words.Given as goal

-- the command with the words that are left is the first one with all
abbrev pub invariant-loop-word : goal.invariant-loop-word
invariant-loop-word l = record {
  app : with_row_words (app_of l.made) (drop l.word-index l.words) ≡ with_row_words (app_of l.fn.command) l.words;
  own : (fields_of l.made).has_globals ≡ false;
}
