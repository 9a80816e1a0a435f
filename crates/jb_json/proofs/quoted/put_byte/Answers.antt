use Rattle.std.proofs.Common.{◌∙◌}
use Rattle.jb_json.proofs.quoted.put_byte.Goals as goal

pub returns : goal.returns
returns g c = rw (c.as_slice.ensures.value ∙ c.escaped.ensures) at c.put.ensures.puts
