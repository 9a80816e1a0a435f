use Rattle.std.proofs.Common.{◌≡◌, ◌++◌, ◌∙◌, ap, sym}
use Rattle.std.proofs.lemmas.List.{append_assoc}
use Rattle.jb_commands.specs.Lines.{shown_at, upto}
use Rattle.jb_commands.proofs.CatBlocks.{upto-more}
use Rattle.jb_commands.proofs.streams.putting.add_shown.Goals as goal

pub loop-at-preserved : goal.loop-at-preserved
loop-at-preserved c =
    let old = c.args.line.now.items in
    let text = shown_at c.args.name.now in
    let at = c.loop-at.at in
    c.in_ok-add.ensures
    ∙ ap (λ part. c.loop-at.line.items ++ part) (c.as_slice.ensures.value ∙ c.shown.ensures)
    ∙ ap (λ line. line ++ text at) c.loop-at.invariant
    ∙ append_assoc old (upto text at) (text at)
    ∙ ap (λ part. old ++ part) (sym (upto-more text at))
