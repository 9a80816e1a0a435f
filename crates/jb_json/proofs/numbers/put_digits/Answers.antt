use Rattle.std.proofs.Common.{◌∙◌}
use Rattle.jb_json.proofs.numbers.put_digits.Goals as goal

pub returns : goal.returns
returns g c = rw (c.as_bytes.ensures.value ∙ c.format.ensures.text) at c.put.ensures.puts
