use Rattle.std.proofs.Common.{List, slice_get, sym, ap}
use Rattle.std.proofs.lemmas.Option.{same_Some}
use Rattle.jb_handle.specs.Word.{WordMap}
use Rattle.proof_clients.specs.ExampleMarks.{first, second, third}
use Rattle.proof_clients.proofs.ExampleMarks.{first-third, second-third}
use Rattle.proof_clients.proofs.examples.marks.sees_stop.Goals as goal

pub returns-clause-not_lost : goal.returns-clause-not_lost
returns-clause-not_lost c sees = second-third (same_Some second third (ap (λ (l : List WordMap). slice_get l 1) sees.begins.1))

pub returns-clause-not_other_words : goal.returns-clause-not_other_words
returns-clause-not_other_words c sees = first-third (sym (same_Some third first sees.stands))
