use Rattle.std.proofs.Common.{◌++◌, ◌∷◌, [], ◌∙◌, length, subst}
use Rattle.jb_board.proofs.EntryPlaces.{get_last, placed_on}
use Rattle.jb_journal.specs.Names.{IsFirstPart}
use Rattle.example_accounts.proofs.moving.Moving.post.Goals as goal

pub returns-clause-stands : goal.returns-clause-stands
returns-clause-stands g c =
    let old = c.args.book.now in
    let seen = c.learn.new.prefix in
    let shown : IsFirstPart (old ++ c.args.posting ∷ []) seen = subst (λ ps. IsFirstPart ps seen) (c.post-shown.ensures.shown ∙ c.post-shown.ensures.posted) c.learn.ensures.other in
    (length old, placed_on (old ++ c.args.posting ∷ []) seen shown (length old, c.args.posting) (get_last old c.args.posting))
