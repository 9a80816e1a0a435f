use Rattle.std.proofs.Common.{◌≡◌, ◌+◌, List, [], ◌∷◌, ◌++◌, map, refl, ap, ap₂, ◌∙◌, arith, append-nil}
use Rattle.jb_log.specs.declared.log.Log.{Log}
use Rattle.jb_deck.specs.Changes.{DeckChange, settled_in, settles}
use Rattle.jb_deck.specs.GroupsOfBatch.{groups_in}
use Rattle.jb_deck.specs.Since.{with_handles}
use Rattle.jb_deck.specs.GroupByGroup.{handles_to}
use Rattle.jb_deck.proofs.HomeChanges.{settled-append, settled-map}
use Rattle.jb_deck.proofs.HomesSinceOpen.{all-handles}
use Rattle.proof_clients.specs.Programs.{all_changes, commits}
use Rattle.proof_clients.proofs.Programs.{SoFar, left-to, opening-runs}
use Rattle.proof_clients.proofs.ProgramCalls.{begun, commit-on, commit-runs, idle-on, idle-runs}
use Rattle.proof_clients.proofs.three.commit_three.Given.{Over}
use Rattle.proof_clients.proofs.three.commit_three.Goals.{After-commit, After-checkpoint_one, After-commit-3}
use Rattle.proof_clients.proofs.three.commit_three.Goals as goal

opened : (g : Over) (c : After-commit g)
    → SoFar g.D.Disk c.args.disk c.in-Ok.deck [] (commits c.args.first ∷ commits c.args.second ∷ commits c.args.third ∷ []) c.in-Ok.deck
opened g c =
    let ok = c.in-Ok.ensures in
    begun c.opening.ensures c.makes.ensures c.since.ensures c.holds.ensures c.keeps.ensures ok.new ok.opens ok.stands ok.kept ok.leaves
    c.shape-shape.ensures.value c.shape-shape.ensures.journal

pub returns-in-Err-clause-leaves : goal.returns-in-Err-clause-leaves
returns-in-Err-clause-leaves g c = λ honest. opening-runs g.D.Disk c.args.disk c.opening.ensures (c.in-Err.ensures.leaves honest)

pub returns-in_default-clause-leaves : goal.returns-in_default-clause-leaves
returns-in_default-clause-leaves g c =
    commit-runs (opened g (goal.at.returns-in_default-clause-leaves g c).After-commit) c.close.ensures.value c.commit.ensures.kept c.commit.ensures.left

pub returns-in_default-commit-clause-leaves : goal.returns-in_default-commit-clause-leaves
returns-in_default-commit-clause-leaves g c =
    let at = goal.at.returns-in_default-commit-clause-leaves g c in
    let one = c.in-Ok-commit.ensures in
    commit-runs (commit-on (opened g at.After-commit) one.kept one.ended one.numbers one.up.1 one.left)
    c.close-in_default-commit.ensures.value c.commit-2.ensures.kept c.commit-2.ensures.left

two : (g : Over) (c : After-checkpoint_one g)
    → SoFar g.D.Disk c.args.disk c.in-Ok.deck [] (commits c.args.first ∷ commits c.args.second ∷ commits c.args.third ∷ []) c.in-Ok.deck
    → SoFar g.D.Disk c.args.disk c.in-Ok.deck (commits c.args.first ∷ commits c.args.second ∷ []) (commits c.args.third ∷ []) c.commit-2.new.deck
two g c so =
    let one = c.in-Ok-commit.ensures in
    let ok = c.in-Ok-commit-2.ensures in
    commit-on (commit-on so one.kept one.ended one.numbers one.up.1 one.left) ok.kept ok.ended ok.numbers ok.up.1 ok.left

pub returns-in_default-checkpoint_one-clause-leaves : goal.returns-in_default-checkpoint_one-clause-leaves
returns-in_default-checkpoint_one-clause-leaves g c =
    let at = goal.at.returns-in_default-checkpoint_one-clause-leaves g c in
    idle-runs (two g at.After-checkpoint_one (opened g at.After-commit)) c.close-in_default-checkpoint_one.ensures.value
    c.checkpoint_one.ensures.kept c.checkpoint_one.ensures.left

checkpointed : (g : Over) (c : After-commit-3 g)
    → SoFar g.D.Disk c.args.disk c.in-Ok.deck (commits c.args.first ∷ commits c.args.second ∷ []) (commits c.args.third ∷ []) c.commit-2.new.deck
    → SoFar g.D.Disk c.args.disk c.in-Ok.deck (commits c.args.first ∷ commits c.args.second ∷ []) (commits c.args.third ∷ []) c.checkpoint_one.new.self
checkpointed g c so =
    let ok = c.in-Ok-checkpoint_one.ensures in
    idle-on so ok.kept (λ honest. ok.ended honest ok.answers.2.live) (ap (λ (l : Log). l.next) ok.answers.2.log) ok.answers.2.live ok.left

pub returns-in-Err-commit-clause-leaves : goal.returns-in-Err-commit-clause-leaves
returns-in-Err-commit-clause-leaves g c =
    let at = goal.at.returns-in-Err-commit-clause-leaves g c in
    commit-runs (checkpointed g at.After-commit-3 (two g at.After-checkpoint_one (opened g at.After-commit)))
    c.close-in-Err-commit.ensures.value c.commit-3.ensures.kept c.commit-3.ensures.left

pub returns-in-Ok-commit-3-clause-leaves : goal.returns-in-Ok-commit-3-clause-leaves
returns-in-Ok-commit-3-clause-leaves g c =
    let at = goal.at.returns-in-Ok-commit-3-clause-leaves g c in
    commit-runs (checkpointed g at.After-commit-3 (two g at.After-checkpoint_one (opened g at.After-commit))) refl c.commit-3.ensures.kept c.commit-3.ensures.left

pub returns-in-Ok-commit-3-clause-all : goal.returns-in-Ok-commit-3-clause-all
returns-in-Ok-commit-3-clause-all g c = λ held.
    let G = g.D.Disk in
    let at = goal.at.returns-in-Ok-commit-3-clause-all g c in
    let so = checkpointed g at.After-commit-3 (two g at.After-checkpoint_one (opened g at.After-commit)) in
    let honest = c.commit-3.ensures.kept.was_honest held in
    let own = (so.is honest).opens.sb in
    let first = c.args.first in
    let second = c.args.second in
    let third = c.args.third in
    let now = c.checkpoint_one.new.self in
    let made : List DeckChange = all_changes (commits first ∷ commits second ∷ []) in
    let hs = first.batch.handles ++ second.batch.handles in
    let settled : settled_in made ≡ hs =
    rw (settled-append (map settles first.batch.handles) (map settles second.batch.handles ++ []), settled-map first.batch.handles, append-nil (map settles second.batch.handles))
    (ap (λ xs. first.batch.handles ++ xs) (settled-map second.batch.handles)) in
    let left = c.commit-3.ensures.left so.up held in
    record {
      own = own;
      was = (so.is honest).opens.taken;
      each = λ image may.
          let n = groups_in third.groups in
          let f = (c.in-Ok-commit-3.ensures.now so.up held).each image may in
          let frame = (left.each image (g.met.D.Disk.counts_now c.commit-3.new.deck.disk (G.moment now.disk) image held left.later may)).frame in
          let more = handles_to third.groups f.groups third.batch.handles in
          let whole : f.groups ≡ n = omega (arith, f.from, f.to) in
          let handles : more ≡ third.batch.handles = ap (λ k. handles_to third.groups k third.batch.handles) whole ∙ all-handles third.groups third.batch.handles c.commit-3.ensures.planned.least.fitting.cut in
          let all : settled_in (made ++ map settles more) ≡ hs ++ third.batch.handles = settled-append made (map settles more) ∙ ap₂ (λ xs ys. xs ++ ys) settled (settled-map more ∙ handles) in
          let many : own.sequence + 1 + (groups_in first.groups + (groups_in second.groups + 0) + f.groups) ≡ own.sequence + 1 + (groups_in first.groups + groups_in second.groups + n) = omega (arith, whole) in
          left-to G c.args.disk so honest (map settles more) f.groups image (with_handles more (now.log.next + f.groups) image f.recovers frame) refl all many;
    }
