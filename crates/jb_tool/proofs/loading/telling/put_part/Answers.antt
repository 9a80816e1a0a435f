use Rattle.jb_tool.proofs.loading.telling.put_part.Goals as goal

pub returns-in-Counts : goal.returns-in-Counts
returns-in-Counts g c = rw c.in-Counts.is c.put_report.ensures

pub returns-in-All : goal.returns-in-All
returns-in-All g c =
    rw c.in-All.is (rw (c.refused_name.ensures, c.as_slice.ensures.value, c.refused_numbers-numbers.ensures, c.commit_word.ensures, c.checkpoint_word.ensures) at c.put_json.ensures)

pub returns-in-Advised : goal.returns-in-Advised
returns-in-Advised g c =
    rw c.in-Advised.is (rw (c.refused_name.ensures, c.as_slice.ensures.value, c.refused_numbers-numbers.ensures, c.commit_word.ensures, c.checkpoint_word.ensures) at c.put_json-in-Advised.ensures)

pub returns-in-Reasoned : goal.returns-in-Reasoned
returns-in-Reasoned g c =
    rw c.in-Reasoned.is (rw (c.refused_name.ensures, c.as_slice.ensures.value, c.refused_numbers-numbers.ensures, c.commit_word.ensures, c.checkpoint_word.ensures) at c.put_json-in-Reasoned.ensures)
