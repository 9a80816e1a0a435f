use Rattle.std.proofs.Common.{◌∙◌, sym, arith, refl}
use Rattle.std.proofs.lemmas.Bool.Decides.{nat_tests}
use Rattle.jb_text.proofs.PartByPart.{rest_all}
use Rattle.jb_text.proofs.Splits.{empty-lines, none-left, first-line}
use Rattle.jb_text.proofs.text.next_line.Goals as goal

pub returns-then-is_empty : goal.returns-then-is_empty
returns-then-is_empty c = empty-lines c.args.text.now (sym c.is_empty.ensures ∙ c.if-is_empty.true)

pub returns-in-empty : goal.returns-in-empty
returns-in-empty c =
    first-line c.args.text.now _ _ _ (grind (arith, nat_tests, sym c.is_empty.ensures ∙ c.if-is_empty.false)) c.part.ensures.front c.part.ensures.back
    (rw (none-left c.part.result.1.now c.in-empty.len_below) refl)

pub returns-in-len1-up : goal.returns-in-len1-up
returns-in-len1-up c =
    first-line c.args.text.now _ _ _ (grind (arith, nat_tests, sym c.is_empty.ensures ∙ c.if-is_empty.false)) c.part.ensures.front c.part.ensures.back (rest_all c.part.result.1.now 1)
