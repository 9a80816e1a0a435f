use Rattle.std.proofs.Common.{◌≡◌, length, ap, subst, arith}
use Rattle.std.specs.Bool.{OnTrue}
use Rattle.proof_clients.proofs.examples.runs.ran_in_image.Goals as goal

pub returns-clause-not_answers : goal.returns-clause-not_answers
returns-clause-not_answers c geometry options left two none ran = omega (arith, two, ap length none, ran.ran.all.answers.number)

pub returns-clause-not_more : goal.returns-clause-not_more
returns-clause-not_more c geometry options left more ran = omega (arith, more, ran.ends.within)

pub returns-clause-not_left : goal.returns-clause-not_left
returns-clause-not_left c geometry options left shut more ran =
    let all : left.settled ≡ left.handles = subst (λ b. OnTrue b (left.settled ≡ left.handles)) shut ran.ends.all in
    omega (arith, all, more)
