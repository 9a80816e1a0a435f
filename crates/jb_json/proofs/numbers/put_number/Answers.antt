use Rattle.jb_json.proofs.numbers.put_number.Goals as goal

pub returns : goal.returns
returns g c = rw c.format.ensures.text at c.put_parts.ensures.puts
