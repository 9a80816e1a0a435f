use Rattle.std.proofs.Common.{decimal, sym, subst, ◌∙◌}
use Rattle.jb_text.specs.Puts.{Puts}
use Rattle.jb_tool.specs.LoadLines.{name_of, refused_parts}
use Rattle.jb_tool.proofs.loading.telling.put_refused.Goals as goal

pub returns-in-Some-number : goal.returns-in-Some-number
returns-in-Some-number g c =
    rw c.in-Some.is (subst (λ n. Puts (g.E.Write.contents c.args.err.now) (g.E.Write.contents c.put_parts.new.writer) (refused_parts (decimal c.in-Some.refused.handle) (name_of c.in-Some.refused.fault) n) c.put_parts.result)
    (sym c.in-Some-number.is ∙ c.number.ensures)
    (rw (c.format-place.ensures.text, c.name-name.ensures, c.format-number.ensures.text) at c.put_parts.ensures.puts))

pub returns-in-None : goal.returns-in-None
returns-in-None g c =
    rw c.in-Some.is (subst (λ n. Puts (g.E.Write.contents c.args.err.now) (g.E.Write.contents c.put_parts-in-None.new.writer) (refused_parts (decimal c.in-Some.refused.handle) (name_of c.in-Some.refused.fault) n) c.put_parts-in-None.result)
    (sym c.in-None.is ∙ c.number.ensures)
    (rw (c.format-place.ensures.text, c.name-name.ensures) at c.put_parts-in-None.ensures.puts))
