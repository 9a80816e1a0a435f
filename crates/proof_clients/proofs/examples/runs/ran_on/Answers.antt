use Rattle.std.proofs.Common.{◌≡◌, ℕ, List, [], ◌∷◌, length, ap, subst, ◌∙◌, arith}
use Rattle.jb_handle.specs.Word.{WordMap}
use Rattle.jb_cost.specs.Pieces.{joined}
use Rattle.jb_deck.specs.Done.{past_after}
use Rattle.jb_book.specs.History.{AreAllStops}
use Rattle.jb_disk.specs.declared.disk.Disk.{Ghosts}
use Rattle.jb_book.specs.Origin.{Begun}
use Rattle.jb_journal.specs.Notes.{Stop}
use Rattle.jb_journal.specs.Run.{RanOn}
use Rattle.jb_journal.specs.declared.ran.Ran.{Ran}
use Rattle.proof_clients.specs.ExampleMarks.{first, second}
use Rattle.proof_clients.specs.ExampleNotes.{HasStopped}
use Rattle.proof_clients.proofs.ExampleEnds.{at_first, one-first, inside}
use Rattle.proof_clients.proofs.ExampleRuns.{both-stopped}
use Rattle.proof_clients.proofs.WorkerReads.{ones}
use Rattle.proof_clients.proofs.examples.runs.ran_on.Goals as goal

module _ {D : Type 0} (G : Ghosts D) (b : Begun) (disk : D) (ran : Ran ℕ D) (one two : List Stop) (on : RanOn G disk b (HasStopped (one ∷ two ∷ [])) 2 ran) where
  all-stops : AreAllStops on.all.ends.log (joined (one ∷ two ∷ []))
  all-stops = subst (λ (s : List (List Stop)). AreAllStops on.all.ends.log (joined s)) (both-stopped G b disk ran one two on) on.all.ends.stopped

pub returns-clause-not_answers : goal.returns-clause-not_answers
returns-clause-not_answers g c disk ran one on = omega (arith, ap length one, on.all.answers.number)

pub returns-clause-not_handles : goal.returns-clause-not_handles
returns-clause-not_handles g c disk ran three on =
    let all = all-stops g.D.Disk g.H.Origin.begun disk ran ((0, first) ∷ []) ((1, second) ∷ []) on in
    omega (arith, all.once (λ (s : ℕ × WordMap). 1), on.all.ends.number, ones 0 on.all.ends.log, three)

pub returns-clause-not_settled : goal.returns-clause-not_settled
returns-clause-not_settled g c disk ran trail on =
    let all = all-stops g.D.Disk g.H.Origin.begun disk ran ((0, first) ∷ []) ((1, second) ∷ []) on in
    let has = on.all.ends.since.has in
    let three : past_after 0 on.all.ends.deck.trail ≡ 3 = ap (past_after 0) (on.all.ends.same_trail ∙ trail) in
    let many = inside g.H.Origin.begun on.all.ends.log on.all.ends.since.given has.tickets has.stopped 2 (omega (arith, three, has.settled)) in
    omega (arith, many, all.once (λ (s : ℕ × WordMap). 1), ones 0 on.all.ends.log)

pub returns-clause-not_twice : goal.returns-clause-not_twice
returns-clause-not_twice g c disk ran on =
    let all = all-stops g.D.Disk g.H.Origin.begun disk ran ((0, first) ∷ []) ((0, first) ∷ []) on in
    omega (arith, all.once at_first, one-first on.all.ends.log)
