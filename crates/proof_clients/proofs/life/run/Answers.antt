use Rattle.std.proofs.Common.{◌≡◌, ap, true, Ok, [], ◌∷◌, sym, subst, ◌∙◌, add-zero}
use Rattle.jb_disk.proofs.CallRuns.{at_the_end}
use Rattle.jb_disk.proofs.KeptOverCalls.{kept_as, kept_ok, kept_on}
use Rattle.jb_disk.specs.Throughout.{AllHave}
use Rattle.jb_disk.specs.Time.{LeavesOnly}
use Rattle.jb_super.specs.Superblock.{Superblock}
use Rattle.jb_format.specs.Front.{super_on}
use Rattle.jb_deck.specs.GroupsOfBatch.{groups_in}
use Rattle.jb_deck.specs.Open.{opened_log}
use Rattle.jb_deck.proofs.Lives.{one-super}
use Rattle.proof_clients.specs.Lives.{IsBatchOf, LeftByLife, of_batch}
use Rattle.proof_clients.specs.Programs.{all_changes, commits}
use Rattle.proof_clients.proofs.OneLife.{LifeLeft, left-whole, life-runs as runs-of, none-runs}
use Rattle.proof_clients.proofs.Programs.{Has, LeftNow, Runs, SoFar, opening-runs}
use Rattle.proof_clients.proofs.ProgramCalls.{begun, closed-has, commit-on, commit-runs, idle-runs, still-has}
use Rattle.proof_clients.proofs.life.run.Given.{Over}
use Rattle.proof_clients.proofs.life.run.Goals.{After-commit, In-Ok-commit}
use Rattle.proof_clients.proofs.life.run.Goals as goal

opened : (g : Over) (c : After-commit g) → SoFar g.D.Disk c.args.disk c.in-Ok.deck [] (commits c.in-Some.batch ∷ []) c.in-Ok.deck
opened g c =
    let ok = c.in-Ok.ensures in
    begun c.opening.ensures c.makes.ensures c.since.ensures c.holds.ensures c.keeps.ensures ok.new ok.opens ok.stands ok.kept ok.leaves
    c.shape.ensures.value c.shape.ensures.journal

committed : (g : Over) (c : In-Ok-commit g) → SoFar g.D.Disk c.args.disk c.in-Ok.deck [] (commits c.in-Some.batch ∷ []) c.in-Ok.deck
    → SoFar g.D.Disk c.args.disk c.in-Ok.deck (commits c.in-Some.batch ∷ []) [] c.commit.new.deck
committed g c so = let ok = c.in-Ok-commit.ensures in commit-on so ok.kept ok.ended ok.numbers ok.up.1 ok.left

-- the batch is one of the life's handles, planned for the journal that was opened, by the superblock that an image had
is-batch : (g : Over) (c : After-commit g) → g.D.Disk.honest c.in-Ok.deck.disk → (own : Superblock)
    → super_on (g.D.Disk.size c.args.disk) (g.D.Disk.count c.args.disk) (g.D.Disk.newest c.args.disk) ≡ Ok own
    → IsBatchOf own (g.D.Disk.count c.args.disk) c.args.handles.items c.in-Some.batch
is-batch g c honest own was =
    let G = g.D.Disk in
    let entry = c.args.disk in
    let is = (opened g c).is honest in
    let ok = c.in-Some.ensures in
    let same = is.opens.log ∙ ap opened_log (one-super (G.size entry) (G.count entry) (G.newest entry) is.opens.sb own is.opens.taken was) in
    let at = rw (← (ok.batch.1 ∙ c.shape.ensures.value), same) at is.shaped in
    record { planned = ok.planned; same = ok.batch.0; shape = record { size = at.size; homes = at.homes; limit = at.limit; width = at.width } }

-- what a crash leaves of the program, it leaves of the life
life-runs : (g : Over) (c : After-commit g) {closed : g.row.D.Denot} → g.D.Disk.honest c.in-Ok.deck.disk
    → Runs g.D.Disk c.args.disk (commits c.in-Some.batch ∷ []) closed → LeavesOnly g.D.Disk.moment g.D.Disk.left_since c.args.disk closed (LifeLeft g.D.Disk c.args.disk c.args.handles.items)
life-runs g c {closed = closed} honest run =
    let batch = c.in-Some.batch in
    runs-of g.D.Disk c.args.disk c.args.handles.items (commits batch ∷ []) (λ own was changes groups part. of_batch batch changes groups (is-batch g c honest own was) part) closed run

commit-ends : (g : Over) (c : After-commit g) {closed : g.row.D.Denot} → closed ≡ c.commit.new.deck.disk → g.D.Disk.honest closed
    → LeavesOnly g.D.Disk.moment g.D.Disk.left_since c.args.disk closed (LifeLeft g.D.Disk c.args.disk c.args.handles.items)
commit-ends g c same held =
    life-runs g c (c.commit.ensures.kept.was_honest (subst g.D.Disk.honest same held)) (commit-runs (opened g c) same c.commit.ensures.kept c.commit.ensures.left held)

-- and all of it, once the batch is committed
life-has : (g : Over) (c : After-commit g) {closed : g.row.D.Denot} → g.D.Disk.honest c.in-Ok.deck.disk
    → AllHave g.D.Disk.may_leave closed (Has g.D.Disk c.args.disk (all_changes (commits c.in-Some.batch ∷ [])) (groups_in c.in-Some.batch.groups))
    → AllHave g.D.Disk.may_leave closed (LeftByLife (g.D.Disk.size c.args.disk) (g.D.Disk.count c.args.disk) (g.D.Disk.newest c.args.disk) c.args.handles.items true)
life-has g c honest has =
    let G = g.D.Disk in
    let entry = c.args.disk in
    let of = is-batch g c honest in
    record { each = λ image may. left-whole (G.size entry) (G.count entry) (G.newest entry) c.args.handles.items c.in-Some.batch image of (has.each image may) }

pub returns-in-Err-clause-leaves : goal.returns-in-Err-clause-leaves
returns-in-Err-clause-leaves g c = λ honest.
    none-runs g.D.Disk c.args.disk c.args.handles.items c.in-Err.disk (opening-runs g.D.Disk c.args.disk c.opening.ensures (c.in-Err.ensures.leaves honest))

pub returns-in_default-clause-leaves : goal.returns-in_default-clause-leaves
returns-in_default-clause-leaves g c = λ held.
    let value = c.close.ensures.value in
    none-runs g.D.Disk c.args.disk c.args.handles.items c.close.result
    (subst (Runs g.D.Disk c.args.disk []) (sym value) (opening-runs g.D.Disk c.args.disk c.opening.ensures (c.in-Ok.ensures.leaves (subst g.D.Disk.honest value held))))

pub returns-in_default-commit-clause-leaves : goal.returns-in_default-commit-clause-leaves
returns-in_default-commit-clause-leaves g c =
    commit-ends g (goal.at.returns-in_default-commit-clause-leaves g c).After-commit c.close-in_default-commit.ensures.value

pub returns-then-not-checkpoint-clause-leaves : goal.returns-then-not-checkpoint-clause-leaves
returns-then-not-checkpoint-clause-leaves g c =
    commit-ends g (goal.at.returns-then-not-checkpoint-clause-leaves g c).After-commit c.close-then-not-checkpoint.ensures.value

pub returns-then-not-checkpoint-clause-ends : goal.returns-then-not-checkpoint-clause-ends
returns-then-not-checkpoint-clause-ends g c = λ held yes.
    let at = goal.at.returns-then-not-checkpoint-clause-ends g c in
    let so = committed g at.In-Ok-commit (opened g at.After-commit) in
    let value = c.close-then-not-checkpoint.ensures.value in
    life-has g at.After-commit (c.commit.ensures.kept.was_honest (subst g.D.Disk.honest value held))
    (closed-has so (add-zero (groups_in c.in-Some.batch.groups)) value c.close-then-not-checkpoint.ensures.left held)

pub returns-clause-leaves : goal.returns-clause-leaves
returns-clause-leaves g c = λ held.
    let at = goal.at.returns-clause-leaves g c in
    let checked = c.checkpoint_one-checked.ensures in
    let honest = c.commit.ensures.kept.was_honest (checked.kept.was_honest (subst g.D.Disk.honest c.close-2.ensures.value held)) in
    let so = committed g at.In-Ok-commit (opened g at.After-commit) in
    life-runs g at.After-commit honest (idle-runs so c.close-2.ensures.value checked.kept checked.left held)

pub returns-clause-ends : goal.returns-clause-ends
returns-clause-ends g c = λ held yes.
    let G = g.D.Disk in
    let at = goal.at.returns-clause-ends g c in
    let so = committed g at.In-Ok-commit (opened g at.After-commit) in
    let old = c.commit.new.deck in
    let new = c.checkpoint_one-checked.new.self.disk in
    let checked = c.checkpoint_one-checked.ensures in
    let later = subst G.honest c.close-2.ensures.value held in
    let honest = checked.kept.was_honest later in
    life-has g at.After-commit (c.commit.ensures.kept.was_honest honest) (still-has so (add-zero (groups_in c.in-Some.batch.groups)) honest (record {
      each = λ image may.
          at_the_end G.may_leave G.moment G.left_since old.disk new (LeftNow G old) (checked.left so.up later)
          (λ t c within left. g.met.D.Disk.counts_now new t c later within left) image (subst (λ d. G.may_leave d image) c.close-2.ensures.value may);
    }))

pub returns-clause-kept : goal.returns-clause-kept
returns-clause-kept g c =
    let committed = kept_as c.in-Ok-commit.ensures.kept c.in-Ok-commit.ensures.unfailed in
    rw c.close-2.ensures.value (kept_on (kept_ok c.in-Ok.ensures.kept committed) c.checkpoint_one-checked.ensures.kept tt)
