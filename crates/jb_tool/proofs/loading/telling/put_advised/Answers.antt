use Rattle.std.proofs.Common.{sym}
use Rattle.jb_tool.proofs.loading.telling.put_advised.Goals as goal

pub returns-in-None : goal.returns-in-None
returns-in-None g c =
    let said = c.hint_parts-said.ensures in
    (said.0, rw (sym said.1.0, sym said.1.1) (rw c.in-None.is c.put_part.ensures))

pub returns-in-Some : goal.returns-in-Some
returns-in-Some g c =
    let said = c.hint_parts-said.ensures in
    (said.0, rw (sym said.1.0, sym said.1.1) (rw c.in-Some.is c.put_part-in-Some.ensures))
