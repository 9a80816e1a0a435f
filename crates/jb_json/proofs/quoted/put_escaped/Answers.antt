use Rattle.jb_json.proofs.quoted.put_escaped.Goals as goal

pub returns : goal.returns
returns g c = rw c.as_bytes.ensures.value at c.put_bytes.ensures
