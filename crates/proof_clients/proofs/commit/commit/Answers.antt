use Rattle.proof_clients.proofs.commit.commit.Goals as goal

pub returns-in-Ok-clause-ended : goal.returns-in-Ok-clause-ended
returns-in-Ok-clause-ended g c = λ honest. c.in-Ok.ensures.ended honest c.in-Ok.ensures.answers.2.up

pub returns-in-Ok-clause-unfailed : goal.returns-in-Ok-clause-unfailed
returns-in-Ok-clause-unfailed g c = c.in-Ok.ensures.answers.1
