use Rattle.std.proofs.Common.{◌≡◌, ◌+◌, List, [], ◌∷◌, ◌++◌, map, subst, arith, add-zero, append-nil}
use Rattle.jb_deck.specs.Changes.{DeckChange, settled_in, settles}
use Rattle.jb_deck.specs.GroupsOfBatch.{groups_in}
use Rattle.jb_deck.proofs.HomeChanges.{settled-map}
use Rattle.proof_clients.specs.Programs.{commits}
use Rattle.proof_clients.proofs.Programs.{SoFar, left-to, opening-runs}
use Rattle.proof_clients.proofs.ProgramCalls.{begun, closed-has, closed-left, commit-on, commit-runs}
use Rattle.proof_clients.proofs.closed.commit_and_close.Given.{Over}
use Rattle.proof_clients.proofs.closed.commit_and_close.Goals.{After-commit}
use Rattle.proof_clients.proofs.closed.commit_and_close.Goals as goal

opened : (g : Over) (c : After-commit g) → SoFar g.D.Disk c.args.disk c.in-Ok.deck [] (commits c.args.batch ∷ []) c.in-Ok.deck
opened g c =
    let ok = c.in-Ok.ensures in
    begun c.opening.ensures c.makes.ensures c.since.ensures c.holds.ensures c.keeps.ensures ok.new ok.opens ok.stands ok.kept ok.leaves
    c.shape-shape.ensures.value c.shape-shape.ensures.journal

pub returns-in-Err-clause-leaves : goal.returns-in-Err-clause-leaves
returns-in-Err-clause-leaves g c = λ honest. opening-runs g.D.Disk c.args.disk c.opening.ensures (c.in-Err.ensures.leaves honest)

pub returns-in-Err-commit-clause-leaves : goal.returns-in-Err-commit-clause-leaves
returns-in-Err-commit-clause-leaves g c =
    commit-runs (opened g (goal.at.returns-in-Err-commit-clause-leaves g c).After-commit) c.close-in-Err-commit.ensures.value
    c.commit.ensures.kept c.commit.ensures.left

pub returns-in-Ok-commit-clause-leaves : goal.returns-in-Ok-commit-clause-leaves
returns-in-Ok-commit-clause-leaves g c =
    commit-runs (opened g (goal.at.returns-in-Ok-commit-clause-leaves g c).After-commit) c.close.ensures.value c.commit.ensures.kept c.commit.ensures.left

pub returns-in-Ok-commit-clause-all : goal.returns-in-Ok-commit-clause-all
returns-in-Ok-commit-clause-all g c = λ held.
    let ok = c.in-Ok-commit.ensures in
    let so = commit-on (opened g (goal.at.returns-in-Ok-commit-clause-all g c).After-commit) ok.kept ok.ended ok.numbers ok.up.1 ok.left in
    let honest = subst g.D.Disk.honest c.close.ensures.value held in
    let is = so.is honest in
    let p = c.args.batch in
    let hs : List DeckChange = map settles p.batch.handles in
    let all : settled_in ((hs ++ []) ++ []) ≡ p.batch.handles = rw (append-nil (hs ++ []), append-nil hs) (settled-map p.batch.handles) in
    let many : is.opens.sb.sequence + 1 + (groups_in p.groups + 0 + 0) ≡ is.opens.sb.sequence + 1 + groups_in p.groups = omega arith in
    let left = closed-left so c.close.ensures.value c.close.ensures.left held in
    record {
      own = is.opens.sb;
      was = is.opens.taken;
      each = λ image may. left-to g.D.Disk c.args.disk so honest [] 0 image (left.each image may) (omega arith) all many;
    }

pub returns-in-Ok-commit-clause-ends : goal.returns-in-Ok-commit-clause-ends
returns-in-Ok-commit-clause-ends g c =
    let ok = c.in-Ok-commit.ensures in
    let so = commit-on (opened g (goal.at.returns-in-Ok-commit-clause-ends g c).After-commit) ok.kept ok.ended ok.numbers ok.up.1 ok.left in
    closed-has so (add-zero (groups_in c.args.batch.groups)) c.close.ensures.value c.close.ensures.left
