use Rattle.std.proofs.Common.{sym, ◌∙◌}
use Rattle.jb_json.proofs.entries.put_entry.Goals as goal

pub returns-in-Some : goal.returns-in-Some
returns-in-Some g c = rw (c.next_word.ensures.words, sym c.number.ensures, c.in-Some.is) c.put_numbered.ensures

pub returns-in-None : goal.returns-in-None
returns-in-None g c = rw (c.next_word.ensures.words, sym c.number.ensures, c.in-None.is) c.put_kind.ensures
