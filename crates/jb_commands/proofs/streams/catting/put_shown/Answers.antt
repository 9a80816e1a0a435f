use Rattle.std.proofs.Common.{[], ◌∷◌, ◌++◌, ◌∙◌, ap, append_assoc, map, sym, take}
use Rattle.std.proofs.lemmas.List.{map_more}
use Rattle.jb_commands.specs.Cat.{shown_as}
use Rattle.jb_commands.proofs.streams.catting.put_shown.Goals as goal

pub loop-byte-preserved : goal.loop-byte-preserved
loop-byte-preserved c =
    let row = c.args.row.now in
    let old = c.args.text.now.items in
    let k = c.loop-byte.byte-index in
    c.in_ok-push.ensures.items
    ∙ ap (λ text. text ++ (c.shown.result ∷ [])) c.loop-byte.invariant
    ∙ ap (λ b. (old ++ map shown_as (take k row)) ++ (b ∷ [])) c.shown.ensures
    ∙ append_assoc old (map shown_as (take k row)) _
    ∙ ap (λ text. old ++ text) (sym (map_more shown_as row k _ c.loop-byte-test.true))
