use Rattle.std.proofs.Common.{◌≡◌, List, [], ◌∷◌, Some, slice_get, sym, ap, ◌∙◌, arith}
use Rattle.std.proofs.lemmas.List.Elements.{All-head}
use Rattle.std.proofs.lemmas.Option.{same_Some}
use Rattle.jb_board.specs.HistoryRule.{StandsIn}
use Rattle.jb_handle.specs.Word.{WordMap}
use Rattle.jb_deck.specs.Done.{past_after}
use Rattle.proof_clients.specs.ExampleMarks.{first, second, third}
use Rattle.proof_clients.proofs.ExampleEnds.{at_first, one-first, inside}
use Rattle.proof_clients.proofs.ExampleMarks.{first-third}
use Rattle.proof_clients.proofs.ExampleIdle.{ends-idle}
use Rattle.proof_clients.proofs.WorkerReads.{ones}
use Rattle.proof_clients.proofs.examples.closing.ends_marked.Goals as goal

pub returns-clause-meets : goal.returns-clause-meets
returns-clause-meets g c d bounds are = ends-idle bounds are g.D.Disk d

pub returns-clause-not_twice : goal.returns-clause-not_twice
returns-clause-not_twice g c handles shape disk trail known marks is =
    omega (arith, is.ends.stopped.once at_first, one-first is.ends.log)

pub returns-clause-not_missing : goal.returns-clause-not_missing
returns-clause-not_missing g c shape disk trail known marks is =
    omega (arith, is.ends.stopped.once (λ s. 1), is.ends.number, ones 0 is.ends.log)

pub returns-clause-not_other_words : goal.returns-clause-not_other_words
returns-clause-not_other_words g c shape disk trail marks is =
    let log = is.ends.log in
    let here : slice_get log 0 ≡ Some first = All-head (StandsIn log) (0, first) ((2, third) ∷ (1, second) ∷ []) is.ends.stopped.stand in
    let seen : Some third ≡ slice_get log 0 = ap (λ (l : List WordMap). slice_get l 0) is.knows.1 in
    first-third (sym (same_Some third first (seen ∙ here)))

pub returns-clause-not_settled : goal.returns-clause-not_settled
returns-clause-not_settled g c shape disk known marks is =
    let has = is.ends.since.has in
    let four : past_after 0 is.ends.deck.trail ≡ 4 = ap (past_after 0) is.ends.same_trail in
    let many = inside g.H.Origin.begun is.ends.log is.ends.since.given has.tickets has.stopped 3 (omega (arith, four, has.settled)) in
    omega (arith, many, is.ends.number)
