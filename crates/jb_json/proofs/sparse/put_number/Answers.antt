use Rattle.jb_json.proofs.sparse.put_number.Goals as goal

pub returns-in-Some : goal.returns-in-Some
returns-in-Some g c = rw c.in-Some.is (rw c.format.ensures.text at c.put_parts.ensures.puts)
