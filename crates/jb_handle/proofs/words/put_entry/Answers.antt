use Rattle.std.proofs.Common.{sym, ◌∙◌}
use Rattle.jb_block.proofs.Refusals.{on-refusal}
use Rattle.jb_handle.proofs.RisingHomes.{put-stands, put-goes, find-goes}
use Rattle.jb_handle.proofs.words.put_entry.Goals as goal

-- the word takes the place of the one that stood there
pub returns-in-Ok-clause-ok : goal.returns-in-Ok-clause-ok
returns-in-Ok-clause-ok c = put-stands c.args.entries.now.items c.requires.rising c.args.home c.in-Ok.at c.args.word (rw c.deref.ensures.value at c.in-Ok.ensures)

-- or comes in between
pub returns-in_ok-insert-in-Err-clause-ok : goal.returns-in_ok-insert-in-Err-clause-ok
returns-in_ok-insert-in-Err-clause-ok c =
    put-goes c.args.entries.now.items c.args.home c.in-Err.at c.args.word (rw c.deref.ensures.value at c.in-Err.ensures) ∙ sym c.in_ok-insert-in-Err.ensures.items

-- no room is needed where the home has a word
pub returns-in_err-insert-in-Err-clause-new : goal.returns-in_err-insert-in-Err-clause-new
returns-in_err-insert-in-Err-clause-new c =
    on-refusal c.from_residual.result (find-goes c.args.entries.now.items c.args.home c.in-Err.at (rw c.deref.ensures.value at c.in-Err.ensures))
