use Rattle.std.proofs.Common.{◌∙◌, ◌+◌, ap, drop, refl}
use Rattle.clap.specs.Words.{app_of, with_rule}
use Rattle.jb_args.specs.Rows.{with_row_words}
use Rattle.jb_args.proofs.Rows.{next_word}
use Rattle.jb_args.proofs.commands.with_words.Goals as goal

pub loop-word-preserved : goal.loop-word-preserved
loop-word-preserved c =
    let own = c.arg_of.ensures.own in
    let added = c.in_ok-made.ensures.shape own ∙ ap (with_rule (app_of c.loop-word.made)) c.arg_of.ensures.rule in
    record {
      app = ap (λ a. with_row_words a (drop (c.loop-word.word-index + 1) c.args.words.now)) added
          ∙ next_word (app_of c.loop-word.made) c.args.words.now c.loop-word.word-index _ c.loop-word-test.true
          ∙ c.loop-word.invariant.app;
      own = rw (c.in_ok-made.ensures.globals, c.loop-word.invariant.own, own) refl;
    }
