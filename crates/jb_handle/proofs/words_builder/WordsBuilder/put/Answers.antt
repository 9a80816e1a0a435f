use Rattle.std.proofs.Common.{sym, ap, ◌∙◌, nat_cmp}
use Rattle.std.specs.FinMap as map
use Rattle.jb_block.proofs.Refusals.{on-refusal}
use Rattle.jb_handle.proofs.EachWord.{put-words}
use Rattle.jb_handle.proofs.RisingHomes.{view-put, view-get}
use Rattle.jb_handle.proofs.Trees.{insert-puts, find-looks}
use Rattle.jb_handle.proofs.words_builder.WordsBuilder.put.Goals as goal

pub invariant_of-self-2 : goal.invariant_of-self-2
invariant_of-self-2 c =
    put-words c.self.inside.tree.entries _ c.self.invariant c.args.home c.args.word c.holds_bytes.ensures (insert-puts c.args.home c.args.word _ ∙ sym c.in_ok-insert.ensures.entries)

pub returns-clause-ok : goal.returns-clause-ok
returns-clause-ok c =
    (view-put c.self.inside.tree.entries _ _ c.self.view_is c.self.invariant.rising c.args.home c.args.word (insert-puts c.args.home c.args.word _ ∙ sym c.in_ok-insert.ensures.entries)).1

pub returns-in_err-insert-clause-err : goal.returns-in_err-insert-clause-err
returns-in_err-insert-clause-err c = on-refusal c.from_residual.result (ap (map.from_sorted {R = nat_cmp}) c.in_err-insert.ensures.err ∙ c.self.view_is)

-- no room is needed where the home has a word
pub returns-in_err-insert-clause-new : goal.returns-in_err-insert-clause-new
returns-in_err-insert-clause-new c =
    on-refusal c.from_residual.result
    (view-get _ _ c.self.view_is c.self.invariant.rising c.args.home ∙ find-looks c.args.home c.self.inside.tree.entries ∙ c.in_err-insert.ensures.absent)
