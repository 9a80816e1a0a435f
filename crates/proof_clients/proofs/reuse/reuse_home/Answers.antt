use Rattle.std.proofs.Common.{◌≡◌, [], ◌∷◌, map, ap, subst, ◌∙◌, add-zero}
use Rattle.jb_deck.specs.Changes.{settles}
use Rattle.jb_deck.specs.Deck.{OpenDeck}
use Rattle.proof_clients.specs.Programs.{commits, writes}
use Rattle.proof_clients.proofs.ProgramParts.{filled}
use Rattle.proof_clients.proofs.Programs.{SoFar, before, opening-runs}
use Rattle.proof_clients.proofs.ProgramCalls.{begun, closed-has, commit-on, commit-runs, idle-runs, read-on, take-on, write-on, write-runs}
use Rattle.proof_clients.proofs.reuse.reuse_home.Given.{Over}
use Rattle.proof_clients.proofs.reuse.reuse_home.Goals.{After-commit, After-read_home, After-commit-2}
use Rattle.proof_clients.proofs.reuse.reuse_home.Goals as goal

opened : (g : Over) (c : After-commit g)
    → SoFar g.D.Disk c.args.disk c.in-Ok.deck [] (commits c.args.first ∷ writes c.args.home c.args.bytes.now ∷ commits c.args.second ∷ []) c.in-Ok.deck
opened g c =
    let ok = c.in-Ok.ensures in
    begun c.opening.ensures c.makes.ensures c.since.ensures c.holds.ensures c.keeps.ensures ok.new ok.opens ok.stands ok.kept ok.leaves
    c.shape-shape.ensures.value c.shape-shape.ensures.journal

pub returns-in-Err-clause-leaves : goal.returns-in-Err-clause-leaves
returns-in-Err-clause-leaves g c = λ honest. opening-runs g.D.Disk c.args.disk c.opening.ensures (c.in-Err.ensures.leaves honest)

pub returns-in_default-clause-leaves : goal.returns-in_default-clause-leaves
returns-in_default-clause-leaves g c =
    commit-runs (opened g (goal.at.returns-in_default-clause-leaves g c).After-commit) c.close.ensures.value c.commit.ensures.kept c.commit.ensures.left

pub returns-in_default-write_free-clause-leaves : goal.returns-in_default-write_free-clause-leaves
returns-in_default-write_free-clause-leaves g c =
    let one = c.in-Ok-commit.ensures in
    write-runs (commit-on (opened g (goal.at.returns-in_default-write_free-clause-leaves g c).After-commit) one.kept one.ended one.numbers one.up.1 one.left)
    c.write_free.result c.close-in_default-write_free.ensures.value c.write_free.ensures.kept c.write_free.ensures.left

written : (g : Over) (c : After-read_home g)
    → SoFar g.D.Disk c.args.disk c.in-Ok.deck [] (commits c.args.first ∷ writes c.args.home c.args.bytes.now ∷ commits c.args.second ∷ []) c.in-Ok.deck
    → SoFar g.D.Disk c.args.disk c.in-Ok.deck (commits c.args.first ∷ writes c.args.home c.args.bytes.now ∷ []) (commits c.args.second ∷ []) c.write_free.new.self
written g c so =
    let one = c.in-Ok-commit.ensures in
    let ok = c.in-Ok-write_free.ensures in
    write-on (commit-on so one.kept one.ended one.numbers one.up.1 one.left) c.write_free.result ok.answers.4 ok.kept ok.ended c.write_free.ensures.left

pub returns-in_default-read_home-clause-leaves : goal.returns-in_default-read_home-clause-leaves
returns-in_default-read_home-clause-leaves g c =
    let at = goal.at.returns-in_default-read_home-clause-leaves g c in
    idle-runs (written g at.After-read_home (opened g at.After-commit)) c.close-in_default-read_home.ensures.value
    c.read_home.ensures.kept.kept c.read_home.ensures.left

pub returns-in_default-take_trail-clause-leaves : goal.returns-in_default-take_trail-clause-leaves
returns-in_default-take_trail-clause-leaves g c =
    let at = goal.at.returns-in_default-take_trail-clause-leaves g c in
    let same = ap (λ (d : OpenDeck g.row.D.Denot). d.disk) c.in_default-take_trail.ensures.refused.0 in
    idle-runs (written g at.After-read_home (opened g at.After-commit)) (c.close-in_default-take_trail.ensures.value ∙ same)
    c.read_home.ensures.kept.kept c.read_home.ensures.left

pub returns-in-Ok-commit-2-clause-read : goal.returns-in-Ok-commit-2-clause-read
returns-in-Ok-commit-2-clause-read g c = λ held.
    let at = goal.at.returns-in-Ok-commit-2-clause-read g c in
    let so = written g at.After-read_home (opened g at.After-commit) in
    let taken = c.commit-2.ensures.kept.was_honest (subst g.D.Disk.honest c.close-in-Ok-commit-2.ensures.value held) in
    let read = subst g.D.Disk.honest (ap (λ (d : OpenDeck g.row.D.Denot). d.disk) c.in-Ok-take_trail.ensures.taken.same) taken in
    let honest = c.read_home.ensures.kept.kept.was_honest read in
    let is = so.is honest in
    let stood = before g.D.Disk c.args.disk in
    c.in-Ok-read_home.ensures.found read
    ∙ filled (map settles c.args.first.batch.handles) c.args.home c.args.bytes.now (stood c.args.home) _
    (c.reads.ensures stood c.in-Ok.deck c.write_free.new.self _ is.new is.stands (so.calls honest) c.args.home)

taken : (g : Over) (c : After-commit-2 g)
    → SoFar g.D.Disk c.args.disk c.in-Ok.deck (commits c.args.first ∷ writes c.args.home c.args.bytes.now ∷ []) (commits c.args.second ∷ []) c.write_free.new.self
    → SoFar g.D.Disk c.args.disk c.in-Ok.deck (commits c.args.first ∷ writes c.args.home c.args.bytes.now ∷ []) (commits c.args.second ∷ []) c.take_trail.new.self
taken g c so =
    let read = read-on so c.in-Ok-read_home.ensures.answers.4 c.read_home.ensures.kept.kept c.read_home.ensures.ended c.read_home.ensures.left in
    take-on read c.in-Ok-take_trail.ensures.taken.same c.take_trail.ensures.ended

pub returns-in-Ok-commit-2-clause-leaves : goal.returns-in-Ok-commit-2-clause-leaves
returns-in-Ok-commit-2-clause-leaves g c =
    let at = goal.at.returns-in-Ok-commit-2-clause-leaves g c in
    commit-runs (taken g at.After-commit-2 (written g at.After-read_home (opened g at.After-commit)))
    c.close-in-Ok-commit-2.ensures.value c.commit-2.ensures.kept c.commit-2.ensures.left

pub returns-in-Ok-commit-2-clause-ends : goal.returns-in-Ok-commit-2-clause-ends
returns-in-Ok-commit-2-clause-ends g c =
    let at = goal.at.returns-in-Ok-commit-2-clause-ends g c in
    let so = taken g at.After-commit-2 (written g at.After-read_home (opened g at.After-commit)) in
    let ok = c.in-Ok-commit-2.ensures in
    closed-has (commit-on so ok.kept ok.ended ok.numbers ok.up.1 ok.left) (rw add-zero) c.close-in-Ok-commit-2.ensures.value c.close-in-Ok-commit-2.ensures.left

pub returns-in-Err-commit-clause-leaves : goal.returns-in-Err-commit-clause-leaves
returns-in-Err-commit-clause-leaves g c =
    let at = goal.at.returns-in-Err-commit-clause-leaves g c in
    commit-runs (taken g at.After-commit-2 (written g at.After-read_home (opened g at.After-commit)))
    c.close-in-Err-commit.ensures.value c.commit-2.ensures.kept c.commit-2.ensures.left
