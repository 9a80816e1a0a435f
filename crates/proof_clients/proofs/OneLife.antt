-- One life of a journal: from what stands before it to what is recovered after it.
use Rattle.std.proofs.Common.{◌≡◌, ℕ, ◌+◌, ◌%◌, ◌^◌, ◌⊎◌, Bool, true, false, nat_eq, List, [], ◌∷◌, ◌++◌, Ok, inl, inr, ⊎_elim, refl, ap, ap₂, sym, subst, ◌∙◌, arith, add-zero, eq-eqb}
use Rattle.std.proofs.lemmas.Bool.{false≢true}
use Rattle.jb_block.specs.Size.{bytes_of}
use Rattle.jb_disk.specs.History.{DiskHistory, IsHistorySound, MayLeave, newest_of}
use Rattle.jb_disk.specs.declared.disk.Disk.{Ghosts}
use Rattle.jb_disk.specs.Image.{Image, Only, block}
use Rattle.jb_disk.specs.Time.{LeavesOnly}
use Rattle.jb_disk.proofs.CallRuns.{weaken}
use Rattle.jb_super.specs.Journal.{SameJournal}
use Rattle.jb_super.specs.Superblock.{Superblock}
use Rattle.jb_plan.specs.Prepare.{Planned}
use Rattle.jb_handle.specs.declared.stopped.Stopped.{Stopped}
use Rattle.jb_format.specs.Front.{homes_in, super_on}
use Rattle.jb_format.specs.Ready.{revoking}
use Rattle.jb_recover.specs.Outcomes.{KeepsJournal, recovered}
use Rattle.jb_recover.proofs.RecoveredImage.{own-clean_refusal}
use Rattle.jb_log.proofs.FrameKeeps.{frame-start}
use Rattle.jb_log.proofs.OwnSuperblock.{same-then}
use Rattle.jb_deck.specs.Calls.{IsCleanAt, RecoversAt}
use Rattle.jb_deck.specs.Changes.{DeckChange}
use Rattle.jb_deck.specs.Deck.{IsShapeOf}
use Rattle.jb_deck.specs.GroupsOfBatch.{groups_in}
use Rattle.jb_deck.specs.Open.{home_by, recovered_home}
use Rattle.jb_deck.specs.Since.{HoldsOn}
use Rattle.jb_deck.proofs.Lives.{one-super, revoking-twice, same-revoking}
use Rattle.jb_deck.proofs.OpenedJournal.{revoking-same}
use Rattle.proof_clients.specs.Lives.{CountsOn, HasLives, HoldsChanges, HoldsLife, IsAtRest, IsBatchOf, IsPartOfLife, LeftByLife, no_life, nothing, of_batch, one_life}
use Rattle.proof_clients.proofs.Programs.{Left, Runs}
use Rattle.proof_clients.specs.Programs.{HasChanges, IsPartOf, LeftByProgram, ProgramPart, after_batch, all_changes, commits, no_more}

-- ---- up to the crash

-- a life without a batch
none-part : (own : Superblock) (count : ℕ) (handles : List Stopped) (changes : List DeckChange) (groups : ℕ) → IsPartOf [] changes groups → IsPartOfLife own count handles changes groups
none-part own count handles changes groups (no_more _) = nothing

-- a crash after the life
pub left-whole : (size count : ℕ) (base : Image) (handles : List Stopped) (batch : Planned) (c : Image) → ((own : Superblock) → super_on size count base ≡ Ok own → IsBatchOf own count handles batch)
    → HasChanges size count base (all_changes (commits batch ∷ [])) (groups_in batch.groups) c → LeftByLife size count base handles true c
left-whole size count base handles batch c of has =
    let is = of has.own has.was in
    record {
      changes = all_changes (commits batch ∷ []);
      groups = groups_in batch.groups;
      has = has;
      part = of_batch batch (all_changes (commits batch ∷ [])) (groups_in batch.groups) is (rw add-zero at (after_batch batch [] [] 0 (no_more [])));
      all = λ yes. record { batch = batch; is = is; all = refl; every = refl };
    }

module _ {D : Type 0} (G : Ghosts D) (entry : D) (handles : List Stopped) where
  -- what a crash leaves from the entry on
  abbrev pub LifeLeft : Image → Type 0
  LifeLeft c = G.may_leave entry c ⊎ LeftByLife (G.size entry) (G.count entry) (G.newest entry) handles false c

  -- and in a program, each part of which is one of the life
  pub life-runs : (parts : List ProgramPart)
      → ((own : Superblock) → super_on (G.size entry) (G.count entry) (G.newest entry) ≡ Ok own → (changes : List DeckChange) (groups : ℕ) → IsPartOf parts changes groups → IsPartOfLife own (G.count entry) handles changes groups)
      → (now : D) → Runs G entry parts now → LeavesOnly G.moment G.left_since entry now LifeLeft
  life-runs parts of now run =
      let left : (c : Image) → LeftByProgram (G.size entry) (G.count entry) (G.newest entry) parts c → LeftByLife (G.size entry) (G.count entry) (G.newest entry) handles false c
      = λ c l. record {
        changes = l.changes;
        groups = l.groups;
        has = l.has;
        part = of l.has.own l.has.was l.changes l.groups l.part;
        all = λ yes. absurd (false≢true yes);
      } in
      weaken G.moment G.left_since entry now (Left G entry parts) LifeLeft (λ c. ⊎_elim inl (λ l. inr (left c l))) run

  pub none-runs : (now : D) → Runs G entry [] now → LeavesOnly G.moment G.left_since entry now LifeLeft
  none-runs now run = life-runs [] (λ own was changes groups part. none-part own (G.count entry) handles changes groups part) now run

-- ---- to the recovery after it

module _ (on : HoldsOn) (size count : ℕ) (own : Superblock) (last : ℕ) (before : ℕ → List ℕ) (done : List DeckChange) (base : Image) (entry : HoldsChanges own last size count before done base) (still : recovered size count base ≡ base) (handles : List Stopped) (committed : Bool) where
  -- its superblock is the journal's own, with the feature for revoke blocks or without it
  abbrev Own : Superblock → Type 0
  Own sb = SameJournal own sb ⊎ SameJournal (revoking own) sb

  own-then : (a b : Superblock) → Own a → SameJournal a b → Own b
  own-then a b is same = ⊎_elim (λ (first : SameJournal own a). inl (same-then own a b first same)) (λ (second : SameJournal (revoking own) a). inr (same-then (revoking own) a b second same)) is

  same-journal : (a : Superblock) → Own a → SameJournal (revoking own) (revoking a)
  same-journal a is = ⊎_elim (same-revoking own a) (λ (second : SameJournal (revoking own) a). subst (λ (x : Superblock). SameJournal x (revoking a)) (revoking-twice own) (same-revoking (revoking own) a second)) is

  -- a plan for the one is one for the other
  batch-own : (a : Superblock) → Own a → (batch : Planned) → IsBatchOf a count handles batch → IsBatchOf own count handles batch
  batch-own a is batch of =
      let at = subst (λ (x : Superblock). IsShapeOf x count batch.batch.shape) (same-journal a is) of.shape in
      record { planned = of.planned; same = of.same; shape = record { size = at.size; homes = at.homes; limit = at.limit; width = at.width } }

  part-own : (a : Superblock) → Own a → (changes : List DeckChange) (groups : ℕ) → IsPartOfLife a count handles changes groups → IsPartOfLife own count handles changes groups
  part-own a is changes groups nothing = nothing
  part-own a is changes groups (of_batch batch _ _ of part) = of_batch batch changes groups (batch-own a is batch of) part

  own-maxlen : (a : Superblock) → Own a → a.maxlen ≡ own.maxlen
  own-maxlen a is = ⊎_elim (λ (first : SameJournal own a). ap (λ (x : Superblock). x.maxlen) first) (λ (second : SameJournal (revoking own) a). ap (λ (x : Superblock). x.maxlen) second ∙ (revoking-same own).maxlen) is

  -- an image that is left by the life, recovered
  module _ (c : Image) (l : LeftByLife size count base handles committed c) where
    abbrev r : Image
    r = recovered size count c

    abbrev sb : Superblock
    sb = l.has.own

    is_own : sb ≡ entry.sb
    is_own = one-super size count base sb entry.sb l.has.was entry.taken

    owned : Own sb
    owned = subst Own (sym is_own) entry.same

    stood : (home : ℕ) → recovered_home size count base home ≡ block base (own.maxlen + home)
    stood home = rw (l.has.was, still, own-maxlen sb owned) refl

    -- the number of the recovered journal counts the groups
    counts-on : (was_clean : Bool) (sequence last groups now : ℕ) → sequence ≡ last → RecoversAt was_clean (sequence + 1 + groups) now → CountsOn last groups now
    counts-on true sequence last groups now same at = inl (omega (arith, same, at))
    counts-on false sequence last groups now same at = inr (at ∙ ap (λ n. n % 2 ^ 32) (ap (λ n. n + 1 + groups) same))

    clean-more : (x : Superblock) (was_clean : Bool) → Own x → IsCleanAt x was_clean (sb.sequence + 1 + l.groups) size count r → HoldsLife own last size count before done handles committed r
    clean-more x was_clean is after =
        let at : sb.sequence ≡ last = ap (λ (s : Superblock). s.sequence) is_own ∙ entry.number in
        record {
          changes = l.changes;
          groups = l.groups;
          part = part-own sb owned l.changes l.groups l.part;
          all = λ yes. (let whole = l.all yes in record { batch = whole.batch; is = batch-own sb owned whole.batch whole.is; all = whole.all; every = whole.every });
          now = after.sb.sequence;
          counts = counts-on was_clean sb.sequence last l.groups after.sb.sequence at after.number;
          holds = record {
            sb = after.sb;
            same = own-then x after.sb is after.same;
            taken = after.taken;
            clean = after.clean;
            number = refl;
            homes = λ home.
                on done l.changes home (before home) (block base (own.maxlen + home)) (block r (own.maxlen + home)) (entry.homes home) (rw (own-maxlen sb owned, stood home) at (l.has.holds home));
          };
        }

    has-more : HoldsLife own last size count before done handles committed r
    has-more = elim l.has.recovered_to [
      | inl is ↦ clean-more sb (nat_eq is.sb.start 0) owned is.after
      | inr is ↦ clean-more (revoking sb) (nat_eq is.sb.start 0) (inr (same-journal sb owned)) is.after
    ]

  -- nothing was changed
  none-has : HasChanges size count base [] 0 base
  none-has =
      let stands : (home : ℕ) → block (recovered size count base) (entry.sb.maxlen + home) ≡ recovered_home size count base home = λ home. sym (ap (λ x. home_by x (recovered size count base) home) entry.taken) in
      record {
        own = entry.sb;
        was = entry.taken;
        recovered_to = inl (record {
          sb = entry.sb;
          same = refl;
          taken = entry.taken;
          not_refused = own-clean_refusal size count entry.sb base entry.taken (ap (λ n. nat_eq n 0) entry.clean);
          after = record { sb = entry.sb; same = refl; taken = ap (super_on size count) still ∙ entry.taken; clean = entry.clean; number = rw (eq-eqb entry.sb.start 0 entry.clean) (let n : entry.sb.sequence + 1 ≡ entry.sb.sequence + 1 + 0 = omega arith in n) };
          each = stands;
        });
        holds = stands;
        keeps = frame-start entry.sb.first (entry.sb.maxlen + homes_in entry.sb count) base;
      }

  -- what a crash left, of the life or of before it, recovered
  pub life-more : (c new : Image) → ((c ≡ base) ⊎ LeftByLife size count base handles false c)
      → (committed ≡ true → LeftByLife size count base handles true c)
      → new ≡ recovered size count c → HoldsLife own last size count before done handles committed new
  life-more c new left whole ended = subst (HoldsLife own last size count before done handles committed) (sym ended) (has-more c (so committed left whole))
    where
      none : LeftByLife size count base handles false base
      none = record { changes = []; groups = 0; has = none-has; part = nothing; all = λ yes. absurd (false≢true yes) }

      so : (b : Bool) → ((c ≡ base) ⊎ LeftByLife size count base handles false c) → (b ≡ true → LeftByLife size count base handles true c) → LeftByLife size count base handles b c
      so true left whole = whole refl
      so false (inl same) whole = subst (LeftByLife size count base handles false) (sym same) none
      so false (inr l) whole = l

-- a disk in memory that was recovered is at rest
pub rested : (size count : ℕ) (old : Image) (new : DiskHistory) → IsHistorySound new → Only (newest_of new) (MayLeave new.first new.steps) → bytes_of new.size ≡ size → new.count ≡ count
    → newest_of new ≡ recovered size count old → recovered size count (recovered size count old) ≡ recovered size count old → IsAtRest new
rested size count old new sound only same_size same_count ended once = record {
  sound = sound;
  only = only;
  still = ap₂ (λ s n. recovered s n (newest_of new)) same_size same_count ∙ ap (recovered size count) ended ∙ once ∙ sym ended;
}

-- an image that was recovered has no changes, counted from its own homes
pub holds-none : (size count : ℕ) (base new : Image) (keeps : KeepsJournal size count base new) → new ≡ recovered size count base → HoldsChanges keeps.own keeps.is.sb.sequence size count (recovered_home size count base) [] new
holds-none size count base new keeps ended = record {
  sb = keeps.is.sb;
  same = inl keeps.is.same;
  taken = keeps.is.taken;
  clean = keeps.is.clean;
  number = refl;
  homes = λ home. ap (λ d. block d (keeps.own.maxlen + home)) ended ∙ sym (ap (λ r. home_by r (recovered size count base) home) keeps.was);
}

-- ---- one life after another

-- before the first of them
pub lives-none : (size count : ℕ) (base new : Image) (keeps : KeepsJournal size count base new) → new ≡ recovered size count base → HasLives size count [] [] base new
lives-none size count base new keeps ended =
    let none = holds-none size count base new keeps ended in
    record {
      own = keeps.own;
      was = keeps.was;
      last = keeps.is.sb.sequence;
      begun = subst (HoldsChanges keeps.own keeps.is.sb.sequence size count (recovered_home size count base) []) ended none;
      changes = [];
      now = keeps.is.sb.sequence;
      are = no_life;
      holds = none;
    }

-- one more
pub lives-more : (size count : ℕ) (lives : List (List Stopped)) (reported : List Bool) (old mid new : Image) (handles : List Stopped) (committed : Bool) → (h : HasLives size count lives reported old mid)
    → HoldsLife h.own h.now size count (recovered_home size count old) h.changes handles committed new → HasLives size count (lives ++ handles ∷ []) (reported ++ committed ∷ []) old new
lives-more size count lives reported old mid new handles committed h life = record {
  own = h.own;
  was = h.was;
  last = h.last;
  begun = h.begun;
  changes = h.changes ++ life.changes;
  now = life.now;
  are = one_life lives reported h.changes h.now handles committed life.changes life.groups life.now h.are life.part life.all life.counts;
  holds = life.holds;
}
