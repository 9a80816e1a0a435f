use Rattle.jb_json.proofs.lines.put_field.Goals as goal

pub returns-in-Counted : goal.returns-in-Counted
returns-in-Counted g c = rw c.in-Counted.is (rw c.format.ensures.text at c.put_parts.ensures.puts)

pub returns-in-Bare : goal.returns-in-Bare
returns-in-Bare g c = rw c.in-Bare.is (rw c.format-in-Bare.ensures.text at c.put_parts-in-Bare.ensures.puts)

pub returns-in-Worded : goal.returns-in-Worded
returns-in-Worded g c = rw c.in-Worded.is c.put_word.ensures
