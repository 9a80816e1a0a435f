use Rattle.std.proofs.Common.{◌≡◌, ℕ, List, [], ◌∷◌, length, ap, subst, arith}
use Rattle.jb_handle.specs.Word.{WordMap}
use Rattle.jb_cost.specs.Pieces.{joined}
use Rattle.jb_book.specs.History.{AreAllStops}
use Rattle.jb_journal.specs.Notes.{Stop}
use Rattle.proof_clients.specs.ExampleMarks.{first, second}
use Rattle.proof_clients.proofs.ExampleRuns.{both-stopped}
use Rattle.proof_clients.proofs.WorkerReads.{ones}
use Rattle.proof_clients.proofs.examples.runs.is_cut_run.Goals as goal

pub returns-clause-not_answers : goal.returns-clause-not_answers
returns-clause-not_answers g c disk ran none cut = omega (arith, ap length none, cut.over.all.answers.number)

pub returns-clause-not_handles : goal.returns-clause-not_handles
returns-clause-not_handles g c disk ran three cut =
    let ends = cut.over.all.ends in
    let both = both-stopped _ _ _ _ ((0, first) ∷ []) ((1, second) ∷ []) cut.over in
    let all : AreAllStops ends.log (joined (((0, first) ∷ []) ∷ ((1, second) ∷ []) ∷ [])) = subst (λ (s : List (List Stop)). AreAllStops ends.log (joined s)) both ends.stopped in
    omega (arith, all.once (λ (s : ℕ × WordMap). 1), ends.number, ones 0 ends.log, three)
