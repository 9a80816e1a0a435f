use Rattle.std.proofs.Common.{sym, ◌∙◌}
use Rattle.std.proofs.lemmas.Result.{on_ok_weaker}
use Rattle.jb_handle.proofs.GatherWords.{put-added}
use Rattle.jb_handle.proofs.words_builder.WordsBuilder.add.Goals as goal

pub returns-clause-ok : goal.returns-clause-ok
returns-clause-ok c =
    on_ok_weaker c.put.result
    (put-added c.args.self.now c.put.new.self c.args.home c.in_ok-try_clone.field-0 c.args.word.now c.in_ok-try_clone.ensures.same (sym c.has.ensures ∙ c.if-has.false)) c.put.ensures.ok
