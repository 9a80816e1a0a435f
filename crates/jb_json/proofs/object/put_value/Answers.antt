use Rattle.jb_json.proofs.object.put_value.Goals as goal

pub returns-in-Counted : goal.returns-in-Counted
returns-in-Counted g c = rw c.in-Counted.is c.put_digits.ensures

pub returns-in-Bare : goal.returns-in-Bare
returns-in-Bare g c = rw c.in-Bare.is c.put_digits-in-Bare.ensures

pub returns-in-Worded : goal.returns-in-Worded
returns-in-Worded g c = rw c.in-Worded.is c.put_quoted.ensures

pub returns-in-Named : goal.returns-in-Named
returns-in-Named g c = rw c.in-Named.is c.put_named.ensures

pub returns-in-Marked : goal.returns-in-Marked
returns-in-Marked g c = rw c.in-Marked.is c.put_truth.ensures

pub returns-in-Chosen : goal.returns-in-Chosen
returns-in-Chosen g c = rw c.in-Chosen.is c.put_truth-in-Chosen.ensures

pub returns-in-Listed : goal.returns-in-Listed
returns-in-Listed g c = rw c.in-Listed.is c.put_numbers.ensures

pub returns-in-Sparse : goal.returns-in-Sparse
returns-in-Sparse g c = rw c.in-Sparse.is c.put_sparse.ensures
