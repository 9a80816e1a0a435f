-- A program goes on call by call, and a crash leaves a first part of what it changes.
use Rattle.std.proofs.Common.{◌≡◌, ℕ, ◌+◌, false, List, [], ◌∷◌, ◌++◌, map, append_assoc, Result, inr, refl, ap, sym, subst, ◌∙◌, arith, rules, add-zero, append-nil}
use Rattle.jb_plan.specs.Prepare.{Planned}
use Rattle.jb_disk.specs.declared.disk.Disk.{Ghosts}
use Rattle.jb_disk.specs.Image.{Image}
use Rattle.jb_disk.specs.KeptOn.{KeptOn}
use Rattle.jb_disk.specs.Throughout.{AllHave}
use Rattle.jb_disk.proofs.KeptOverCalls.{kept_same}
use Rattle.jb_disk.proofs.CallRuns.{after, weaken}
use Rattle.jb_handle.specs.declared.shape.Shape.{Shape}
use Rattle.jb_deck.specs.Calls.{OpeningIsRecovered, at_first, one_more}
use Rattle.jb_deck.specs.Changes.{DeckChange, fills, settles, torn_by}
use Rattle.jb_deck.specs.Deck.{IsShapeOf, OpenDeck, on_disk}
use Rattle.jb_deck.specs.GroupsOfBatch.{groups_in}
use Rattle.jb_deck.specs.CallsSinceOpen.{CrashKeeps}
use Rattle.jb_deck.specs.Open.{IsNew}
use Rattle.jb_deck.specs.Since.{CrashHolds, EndedMakesChanges, IsEnded, IsLeft, SinceIsRecovered}
use Rattle.jb_deck.specs.GroupByGroup.{handles_to}
use Rattle.jb_deck.specs.declared.freed.FreeFault.{FreeFault}
use Rattle.proof_clients.specs.Programs.{LeftByProgram, ProgramPart, all_changes, all_groups, commits, in_batch, no_more, writes}
use Rattle.proof_clients.proofs.ProgramParts.{changes-append, groups-append, torn-part}
use Rattle.proof_clients.proofs.Programs.{Ends, Has, Keeps, Leaving, Left, LeftClosed, LeftIn, LeftInBatch, LeftNow, OpensAs, Opening, Runs, SoFar, Stands, left-has, left-program, opening-runs}

module _ {D : Type 0} {G : Ghosts D} {entry : D} where
  -- the journal was opened
  pub begun : {parts : List ProgramPart} {counts : ℕ → ℕ → Type 0} {opened : OpenDeck D} {shape : Shape}
      → OpeningIsRecovered → EndedMakesChanges G.newest → SinceIsRecovered G.newest → CrashHolds G.newest → CrashKeeps G.newest → IsNew opened
      → (G.honest opened.disk → OpensAs G entry opened) → (G.honest opened.disk → Stands G entry opened) → KeptOn G counts entry opened.disk
      → (G.honest opened.disk → Opening G entry opened.disk) → shape ≡ opened.shape → IsShapeOf opened.log.sb (G.count opened.disk) shape
      → SoFar G entry opened [] parts opened
  begun {opened = opened} recovers makes since holds keeps new opens stands kept run same shaped = record {
    next = sym (add-zero opened.log.next);
    up = new.aborted;
    same_size = kept.same_size;
    same_count = kept.same_count;
    is = λ honest. search (rules, opens honest, stands honest, rw (same, kept.same_count) at shaped);
    calls = λ honest. at_first;
    run = λ honest. opening-runs G entry recovers (run honest);
  }

  module _ {opened now : OpenDeck D} {made rest : List ProgramPart} (so : SoFar G entry opened made rest now) where
    -- what a crash leaves in the next call, or once the journal is closed after it
    runs : {new closed : D} → closed ≡ new → Keeps G now.disk new → (P : Image → Type 0) → Leaving G now new P
        → (G.honest now.disk → (c : Image) → P c → LeftByProgram (G.size entry) (G.count entry) (G.newest entry) (made ++ rest) c)
        → G.honest closed → Runs G entry (made ++ rest) closed
    runs {new = new} same kept P left gives held =
        let honest = subst G.honest same held in
        let was = kept.was_honest honest in
        subst (Runs G entry (made ++ rest)) (sym same)
        (after G.moment G.left_since entry now.disk new (Left G entry (made ++ rest)) (so.run was)
        (weaken G.moment G.left_since now.disk new P (Left G entry (made ++ rest)) (λ c has. inr (gives was c has)) (left so.up honest)))

    -- a call has ended, and made some parts
    step : {new : OpenDeck D} (done later : List ProgramPart) (changes : List DeckChange) (groups : ℕ) → made ++ rest ≡ done ++ later
        → all_changes done ≡ all_changes made ++ changes → all_groups done ≡ all_groups made + groups
        → Keeps G now.disk new.disk → Ends G now changes new → new.log.next ≡ now.log.next + groups → new.aborted ≡ false
        → (G.honest new.disk → Runs G entry (made ++ rest) new.disk) → SoFar G entry opened done later new
    step {new = new} done later changes groups parts all sum kept ended next up run = record {
      next = (let was = so.next in let is : new.log.next ≡ opened.log.next + all_groups done = omega (arith, next, was, sum) in is);
      up = up;
      same_size = kept.same_size ∙ so.same_size;
      same_count = kept.same_count ∙ so.same_count;
      is = λ honest. so.is (kept.was_honest honest);
      calls = λ honest. rw all (one_more (all_changes made) now changes new (so.calls (kept.was_honest honest)) ((so.is (kept.was_honest honest)).makes now changes new (ended honest)));
      run = λ honest. subst (λ ps. Runs G entry ps new.disk) parts (run honest);
    }

    -- ---- a call that changes nothing

    pub idle-runs : {new closed : D} → closed ≡ new → Keeps G now.disk new → Leaving G now new (LeftNow G now) → G.honest closed
        → Runs G entry (made ++ rest) closed
    idle-runs same kept left = runs same kept (LeftNow G now) left (λ honest c has. left-program G entry so honest [] 0 c has (omega arith) (no_more rest))

    idle-step : {new : OpenDeck D} → Keeps G now.disk new.disk → Ends G now [] new → new.log.next ≡ now.log.next → new.aborted ≡ false
        → (G.honest new.disk → Runs G entry (made ++ rest) new.disk) → SoFar G entry opened made rest new
    idle-step {new = new} kept ended next up run =
        step made rest [] 0 refl (sym (append-nil (all_changes made))) (sym (add-zero (all_groups made))) kept ended (next ∙ sym (add-zero now.log.next)) up run

    pub idle-on : {new : OpenDeck D} → Keeps G now.disk new.disk → Ends G now [] new → new.log.next ≡ now.log.next → new.aborted ≡ false
        → Leaving G now new.disk (LeftNow G now) → SoFar G entry opened made rest new
    idle-on kept ended next up left = idle-step kept ended next up (idle-runs refl kept left)

    -- but the disk
    pub read-on : {new : OpenDeck D} → new ≡ on_disk now new.disk → Keeps G now.disk new.disk → Ends G now [] new
        → Leaving G now new.disk (LeftNow G now) → SoFar G entry opened made rest new
    read-on same kept ended left =
        idle-on kept ended (ap (λ (d : OpenDeck D). d.log.next) same) (ap (λ (d : OpenDeck D). d.aborted) same ∙ so.up) left

    -- but the trail
    pub take-on : {new : OpenDeck D} → new ≡ record now { trail = new.trail } → IsEnded G.newest now [] new → SoFar G entry opened made rest new
    take-on {new = new} same ended =
        let disk : new.disk ≡ now.disk = ap (λ (d : OpenDeck D). d.disk) same in
        idle-step (rw disk (kept_same now.disk tt)) (λ honest. ended)
        (ap (λ (d : OpenDeck D). d.log.next) same) (ap (λ (d : OpenDeck D). d.aborted) same ∙ so.up)
        (λ honest. subst (Runs G entry (made ++ rest)) (sym disk) (so.run (subst G.honest disk honest)))

    -- ---- between the calls

    pub still-has : {disk : D} {n : ℕ} → all_groups made ≡ n → G.honest now.disk → AllHave G.may_leave disk (LeftNow G now)
        → AllHave G.may_leave disk (Has G entry (all_changes made) n)
    still-has {n = n} many honest left =
        let sum : all_groups made + 0 ≡ n = omega (arith, many) in
        record {
          each = λ c may. rw (append-nil (all_changes made), sum) at (left-has G entry so honest [] 0 c (left.each c may) (omega arith));
        }

    -- once the journal is closed
    pub closed-left : {closed : D} → closed ≡ now.disk → LeftClosed G now closed → G.honest closed → AllHave G.may_leave closed (LeftNow G now)
    closed-left same left held = record {
      each = λ c may. subst (λ (d : D). IsLeft G.newest (G.size d) (G.count d) now [] now.log.next c) same ((left so.up held).each c may);
    }

    pub closed-has : {closed : D} {n : ℕ} → all_groups made ≡ n → closed ≡ now.disk → LeftClosed G now closed → G.honest closed
        → AllHave G.may_leave closed (Has G entry (all_changes made) n)
    closed-has many same left held = still-has many (subst G.honest same held) (closed-left same left held)

  -- ---- a batch

  module _ {batch : Planned} {opened now : OpenDeck D} {made rest : List ProgramPart} (so : SoFar G entry opened made (commits batch ∷ rest) now) where
    pub commit-runs : {new closed : D} → closed ≡ new → Keeps G now.disk new → Leaving G now new (LeftInBatch G now batch)
        → G.honest closed → Runs G entry (made ++ commits batch ∷ rest) closed
    commit-runs same kept left =
        runs so same kept (LeftInBatch G now batch) left (λ honest c l.
        let hs : List DeckChange = map settles (handles_to batch.groups l.groups batch.batch.handles) in
        left-program G entry so honest hs l.groups c l.left refl (in_batch batch rest l.groups l.within))

    pub commit-on : {new : OpenDeck D} → Keeps G now.disk new.disk → Ends G now (map settles batch.batch.handles) new
        → new.log.next ≡ now.log.next + groups_in batch.groups → new.aborted ≡ false → Leaving G now new.disk (LeftInBatch G now batch)
        → SoFar G entry opened (made ++ commits batch ∷ []) rest new
    commit-on kept ended next up left =
        let one : List ProgramPart = commits batch ∷ [] in
        let hs : List DeckChange = map settles batch.batch.handles in
        let all : all_changes (made ++ one) ≡ all_changes made ++ hs = changes-append made one ∙ ap (λ cs. all_changes made ++ cs) (append-nil hs) in
        step so (made ++ one) rest hs (groups_in batch.groups) (sym (append_assoc made one rest)) all (rw add-zero at (groups-append made one)) kept ended next up (commit-runs refl kept left)

  -- ---- bytes that are written into a free home

  module _ {home : ℕ} {bytes : List ℕ} {opened now : OpenDeck D} {made rest : List ProgramPart} (so : SoFar G entry opened made (writes home bytes ∷ rest) now)
      (r : Result (Unit {0}) FreeFault) where
    pub write-runs : {new closed : D} → closed ≡ new → Keeps G now.disk new → Leaving G now new (LeftIn G now (torn_by r home bytes) now.log.next)
        → G.honest closed → Runs G entry (made ++ writes home bytes ∷ rest) closed
    write-runs same kept left =
        let torn = torn_by r home bytes in
        runs so same kept (LeftIn G now torn now.log.next) left (λ honest c has.
        left-program G entry so honest torn 0 c has (omega arith) (torn-part r home bytes rest))

    pub write-on : {new : OpenDeck D} → new ≡ on_disk now new.disk → Keeps G now.disk new.disk
        → (G.honest new.disk → new.aborted ≡ false → IsEnded G.newest now (fills home bytes ∷ []) new)
        → Leaving G now new.disk (LeftIn G now (torn_by r home bytes) now.log.next) → SoFar G entry opened (made ++ writes home bytes ∷ []) rest new
    write-on {new = new} same kept ended left =
        let one : List ProgramPart = writes home bytes ∷ [] in
        let up : new.aborted ≡ false = ap (λ (d : OpenDeck D). d.aborted) same ∙ so.up in
        let next = ap (λ (d : OpenDeck D). d.log.next) same ∙ sym (add-zero now.log.next) in
        step so (made ++ one) rest (fills home bytes ∷ []) 0 (sym (append_assoc made one rest)) (changes-append made one) (groups-append made one)
        kept (λ honest. ended honest up) next up (write-runs refl kept left)
