use Rattle.jb_json.proofs.lines.put_list.Goals as goal

pub returns-in-Listed : goal.returns-in-Listed
returns-in-Listed g c = rw c.in-Listed.is c.put_number_lines.ensures
