-- What a program has done so far, and what a crash leaves of it.
use Rattle.std.proofs.Common.{◌≡◌, add-zero, ℕ, ◌+◌, true, false, not, nat_eq, List, refl, ap, ap₂, subst, ◌∙◌, ◌⊎◌, [], ◌++◌, inl, inr, ⊎_elim, sym, arith, ◌-◌, ◌^◌, min, if◌then◌else◌}
use Rattle.std.proofs.lemmas.Nat.{and_or_apart}
use Rattle.jb_disk.specs.Image.{Image, block}
use Rattle.jb_super.specs.Superblock.{Superblock}
use Rattle.jb_handle.specs.declared.stopped.Stopped.{Stopped}
use Rattle.jb_super.specs.Features.{wide_in}
use Rattle.jb_format.specs.Front.{homes_in}
use Rattle.jb_format.specs.Ready.{has_revoke, revoking, revoking_if}
use Rattle.jb_deck.specs.Deck.{IsShapeOf, OpenDeck}
use Rattle.jb_deck.specs.Open.{opened_log, FollowsEntry, IsNew, Opens, recovered_home}
use Rattle.jb_log.specs.declared.log.Log.{Log}
use Rattle.jb_deck.specs.Calls.{IsRecoveredTo, OpeningIsRecovered, Reaches}
use Rattle.jb_deck.proofs.OpenedJournal.{revoking-same}
use Rattle.jb_plan.specs.Prepare.{Planned}
use Rattle.jb_disk.specs.declared.disk.Disk.{Ghosts}
use Rattle.jb_disk.specs.Faults.{CountsAny}
use Rattle.jb_disk.specs.KeptOn.{KeptOn}
use Rattle.jb_disk.specs.Throughout.{AllHave}
use Rattle.jb_disk.specs.Time.{LeavesOnly}
use Rattle.jb_disk.proofs.CallRuns.{weaken}
use Rattle.jb_recover.specs.Outcomes.{recovered}
use Rattle.jb_deck.specs.Changes.{DeckChange, settled_in}
use Rattle.jb_deck.specs.CallsSinceOpen.{CrashKeeps}
use Rattle.jb_deck.specs.Since.{CrashHolds, EndedMakesChanges, IsEnded, IsLeft, LeftInCommit, MakesChanges, SinceIsRecovered, deck_homes}
use Rattle.proof_clients.specs.Programs.{HasChanges, IsPartOf, LeftByProgram, ProgramPart, all_changes, all_groups, no_more}
use Rattle.proof_clients.proofs.ProgramParts.{part-on}

-- ---- the journal that was opened, and the one that the disk had at first

-- the superblock of a log that was opened is the one at first, with the feature for revoke blocks, but for where the log begins
pub opened-recovered : (l : Log) (sb : Superblock) → l ≡ opened_log sb → (next size count : ℕ) (before : ℕ → List ℕ) (hs : List Stopped) (c : Image) → IsRecoveredTo l.sb next size count before hs c → IsRecoveredTo (revoking sb) next size count before hs c
opened-recovered l sb is next size count before hs c has =
    let own = subst (λ (m : Log). IsRecoveredTo m.sb next size count before hs c) is has in
    let after = own.after in
    record {
      sb = own.sb;
      same = own.same;
      taken = own.taken;
      not_refused = own.not_refused;
      after = record { sb = after.sb; same = after.same; taken = after.taken; clean = after.clean; number = after.number };
      each = own.each;
    }

-- the feature for revoke blocks does not change how wide block numbers are
wide-revoking : (sb : Superblock) → wide_in (revoking sb) ≡ wide_in sb
wide-revoking sb = elim (has_revoke sb) as (λ b. wide_in (revoking_if b sb) ≡ wide_in sb) [ true ↦ refl | false ↦ ap (λ m. not (nat_eq m 0)) (and_or_apart 2 sb.incompat 1 refl) ]

-- ---- what a program has done so far, and what a crash leaves of it

-- the opening alone
entry-has : OpeningIsRecovered → (size count : ℕ) (base c : Image) → FollowsEntry size count base c → HasChanges size count base [] 0 c
entry-has opening size count base c f =
    let before : ℕ → List ℕ = recovered_home size count base in
    let here : (home maxlen : ℕ) → maxlen ≡ f.sb.maxlen → block (recovered size count c) (f.sb.maxlen + home) ≡ block (recovered size count c) (maxlen + home)
    = λ home maxlen same. ap (λ m. block (recovered size count c) (m + home)) (sym same) in
    let is = opening size count base c f in
    record {
      own = f.sb;
      was = f.was;
      recovered_to = rw (add-zero (f.sb.sequence + 1)) is;
      holds = λ home. elim is [
        | inl early ↦ here home _ (ap (λ (x : Superblock). x.maxlen) early.same) ∙ early.each home
        | inr late ↦ here home _ (ap (λ (x : Superblock). x.maxlen) late.same ∙ (revoking-same f.sb).maxlen) ∙ late.each home
      ];
      keeps = f.frame;
    }

module _ {D : Type 0} (G : Ghosts D) where
  -- what a crash leaves over a run
  abbrev pub Leaves : D → D → (Image → Type 0) → Type 0
  Leaves old new P = LeavesOnly G.moment G.left_since old new P

  -- clauses `kept`, `ended` and `left` of a call of a deck
  abbrev pub Keeps : D → D → Type 0
  Keeps old new = KeptOn G CountsAny old new

  abbrev pub Ends : OpenDeck D → List DeckChange → OpenDeck D → Type 0
  Ends now changes new = G.honest new.disk → IsEnded G.newest now changes new

  abbrev pub Leaving : OpenDeck D → D → (Image → Type 0) → Type 0
  Leaving now new P = now.aborted ≡ false → G.honest new → Leaves now.disk new P

  -- what a crash leaves in a call that changes something, or nothing, and in a commit
  abbrev pub LeftIn : OpenDeck D → List DeckChange → ℕ → Image → Type 0
  LeftIn now changes next = IsLeft G.newest (G.size now.disk) (G.count now.disk) now changes next

  abbrev pub LeftNow : OpenDeck D → Image → Type 0
  LeftNow now = LeftIn now [] now.log.next

  abbrev pub LeftInBatch : OpenDeck D → Planned → Image → Type 0
  LeftInBatch now batch = LeftInCommit G.newest (G.size now.disk) (G.count now.disk) now batch

  -- the clause `left` of closing it
  abbrev pub LeftClosed : OpenDeck D → D → Type 0
  LeftClosed now closed =
      now.aborted ≡ false → G.honest closed → AllHave G.may_leave closed (IsLeft G.newest (G.size closed) (G.count closed) now [] now.log.next)

  module _ (entry : D) where
    abbrev size : ℕ
    size = G.size entry

    abbrev count : ℕ
    count = G.count entry

    abbrev base : Image
    base = G.newest entry

    abbrev pub before : ℕ → List ℕ
    before = recovered_home size count base

    -- an image has these changes since the entry, and a crash leaves such ones of a program
    abbrev pub Has : List DeckChange → ℕ → Image → Type 0
    Has changes groups c = HasChanges size count base changes groups c

    abbrev pub Left : List ProgramPart → Image → Type 0
    Left parts c = G.may_leave entry c ⊎ LeftByProgram size count base parts c

    abbrev pub Runs : List ProgramPart → D → Type 0
    Runs parts now = Leaves entry now (Left parts)

    -- while the journal is opened
    abbrev pub Opening : D → Type 0
    Opening now = Leaves entry now (λ c. G.may_leave entry c ⊎ FollowsEntry size count base c)

    pub opening-runs : {parts : List ProgramPart} {now : D} → OpeningIsRecovered → Opening now → Runs parts now
    opening-runs {parts = parts} {now = now} opening run =
        weaken G.moment G.left_since entry now (λ c. G.may_leave entry c ⊎ FollowsEntry size count base c) (Left parts)
        (λ c. ⊎_elim inl (λ f. inr (record { changes = []; groups = 0; part = no_more parts; has = entry-has opening size count base c f })))
        run

    -- it was opened: by its clauses, and the laws

    abbrev pub OpensAs : OpenDeck D → Type 0
    OpensAs deck = Opens size count base (G.newest deck.disk) deck.log

    abbrev pub Stands : OpenDeck D → Type 0
    Stands deck = (home : ℕ) → deck_homes G.newest deck home ≡ before home

    pub record IsOpened (deck : OpenDeck D) : Type 0 where
      pub makes : EndedMakesChanges G.newest
      pub since : SinceIsRecovered G.newest
      pub holds : CrashHolds G.newest
      pub keeps : CrashKeeps G.newest
      pub new : IsNew deck
      pub opens : OpensAs deck
      pub shaped : IsShapeOf deck.log.sb count deck.shape
      pub stands : Stands deck

    -- Since it was opened these parts were made, and the rest are to come. What it says of the disk holds of an honest one.
    pub record SoFar (opened : OpenDeck D) (made rest : List ProgramPart) (now : OpenDeck D) : Type 0 where
      pub next : now.log.next ≡ opened.log.next + all_groups made
      pub up : now.aborted ≡ false
      pub same_size : G.size now.disk ≡ size
      pub same_count : G.count now.disk ≡ count
      pub is : G.honest now.disk → IsOpened opened
      pub calls : G.honest now.disk → Reaches (λ before. MakesChanges G.newest) opened (all_changes made) now
      pub run : G.honest now.disk → Runs (made ++ rest) now.disk

    -- what a crash left in the next call
    module _ {opened now : OpenDeck D} {made rest : List ProgramPart} (so : SoFar opened made rest now) (honest : G.honest now.disk)
        (changes : List DeckChange) (more : ℕ) (c : Image) {next : ℕ} (left : LeftIn now changes next c) (sum : next ≡ now.log.next + more) where
      here : IsLeft G.newest size count now changes next c
      here = subst (λ (x : ℕ × ℕ). IsLeft G.newest x.0 x.1 now changes next c) (λ i. (so.same_size i, so.same_count i)) left

      pub left-to : {hs : List Stopped} {n : ℕ} → settled_in (all_changes made ++ changes) ≡ hs
          → (so.is honest).opens.sb.sequence + 1 + (all_groups made + more) ≡ n → IsRecoveredTo (revoking (so.is honest).opens.sb) n size count before hs c
      left-to {hs = hs} {n = n} settled many =
          let is = so.is honest in
          let to = is.since size count before opened now (all_changes made) changes next c is.new is.stands (so.calls honest) here in
          let start : opened.log.next ≡ is.opens.sb.sequence + 1 = ap (λ (x : Log). x.next) is.opens.log in
          let number : next ≡ n = omega (arith, start, so.next, many, sum) in
          rw number at (opened-recovered opened.log is.opens.sb is.opens.log next size count before hs c (rw settled at to))

      pub left-has : Has (all_changes made ++ changes) (all_groups made + more) c
      left-has =
          let is = so.is honest in
          let but = revoking-same is.opens.sb in
          let first : opened.log.sb.first ≡ is.opens.sb.first = ap (λ (x : Log). x.sb.first) is.opens.log ∙ but.first in
          let maxlen : opened.log.sb.maxlen ≡ is.opens.sb.maxlen = ap (λ (x : Log). x.sb.maxlen) is.opens.log ∙ but.maxlen in
          let homes : opened.shape.homes ≡ homes_in is.opens.sb count =
          is.shaped.homes ∙ ap (λ (x : Log). homes_in x.sb count) is.opens.log ∙ ap₂ (λ w m. min (count - m) (if w then 2 ^ 64 - 1 else 2 ^ 32)) (wide-revoking is.opens.sb) but.maxlen in
          record {
            own = is.opens.sb;
            was = is.opens.taken;
            recovered_to = inr (left-to refl refl);
            holds = λ home. rw maxlen at (is.holds size count before opened now (all_changes made) changes next c is.new is.stands (so.calls honest) here home);
            keeps = rw (first, maxlen, homes) at (is.keeps size count base opened now (all_changes made) changes next c is.opens is.shaped (so.calls honest) here).0;
          }

      pub left-program : IsPartOf rest changes more → LeftByProgram size count base (made ++ rest) c
      left-program part = record {
        changes = all_changes made ++ changes;
        groups = all_groups made + more;
        part = part-on made rest changes more part;
        has = left-has;
      }
