-- A journal since its desk was started: with other things known of its handles, and what a call keeps by which it is given none, as a checkpoint and a read.
use Rattle.std.proofs.Common.{◌≡◌, ℕ, zero, suc, Bool, true, false, ◌+◌, ◌<◌, ◌≤◌, List, Some, [], ◌∷◌, ◌++◌, length, map, take, All, Result, Ok, Err, OnOk, refl, ap, sym, subst, ◌∙◌, arith, append-nil}
use Rattle.std.proofs.lemmas.List.Elements.{All-weaker}
use Rattle.jb_disk.specs.Faults.{MoreFaults, CountsAny}
use Rattle.jb_disk.specs.Image.{Image}
use Rattle.jb_disk.specs.KeptOn.{KeptOn, ReadsOn}
use Rattle.jb_disk.specs.declared.disk.Disk.{Ghosts}
use Rattle.jb_disk.specs.Time.{LeavesOnly}
use Rattle.jb_disk.proofs.CallRuns.{weaken}
use Rattle.jb_handle.specs.Words.{word}
use Rattle.jb_handle.specs.declared.shape.Shape.{Shape}
use Rattle.jb_handle.specs.declared.stopped.Stopped.{Stopped}
use Rattle.jb_scan.specs.Found.{log_blocks}
use Rattle.jb_super.specs.Journal.{SameJournal}
use Rattle.jb_deck.specs.Checkpoints.{as_run, AnswersRun, Checkpoints}
use Rattle.jb_group.specs.declared.group.Group.{Group}
use Rattle.jb_deck.specs.Deck.{OpenDeck, on_disk, stood_on}
use Rattle.jb_deck.specs.Done.{past_after, start_of}
use Rattle.jb_log.specs.Follows.{RecoversWith, StandsBy}
use Rattle.jb_log.specs.Log.{transactions, standing}
use Rattle.jb_deck.specs.declared.checked.Checked.{Checked}
use Rattle.jb_deck.specs.declared.checked.CheckedRun.{CheckedRun}
use Rattle.jb_deck.specs.declared.checked.CheckpointFault.{CheckpointFault}
use Rattle.jb_deck.specs.declared.checked.CheckpointFault.TheVariants as checkpoint
use Rattle.jb_deck.specs.declared.done.Entry.{Entry}
use Rattle.jb_log.proofs.OwnSuperblock.{same-then}
use Rattle.jb_deck.specs.Since.{LiveOf, checkpointed, deck_homes}
use Rattle.jb_deck.specs.Conduct.{HasCalled, checkpoint_up_to, read_home}
use Rattle.jb_deck.proofs.Conduct.{asked-on}
use Rattle.jb_deck.proofs.EndedMakes.{ended-is-call}
use Rattle.jb_book.specs.Journal.{blocks_in_use, most_at_once, ChecksAt, ChecksRound, ReadsHome}
use Rattle.jb_book.specs.declared.checkpoint.CheckpointRound.{CheckpointRound}
use Rattle.jb_book.specs.declared.checkpoint.CheckpointRound.TheVariants.{Home}
use Rattle.jb_book.specs.Origin.{Begun}
use Rattle.jb_book.specs.Since.{NumberedFrom, HasFirst, IsCosted, IsSince, IsSinceOf, Since, WasGiven, may_stop}
use Rattle.jb_book.specs.SinceMark.{IsMarkedOf, HasSettledOf}
use Rattle.jb_book.proofs.MarksLast.{CountsNow, ever-on, kept-all, first-none}
use Rattle.jb_deck.specs.ReadHome.{AnswersRead, IsAsBefore}
use Rattle.jb_deck.specs.declared.read.ReadHomeFault.{ReadHomeFault}
use Rattle.jb_deck.specs.declared.read.ReadHomeFault.TheVariants.{Aborted, OutOfRange, Length, DeviceFault}
use Rattle.jb_handle.specs.Word.{WordMap}
use Rattle.jb_board.specs.HistoryRule.{StandsIn}
use Rattle.jb_book.specs.History.{IsStop}

-- what a round answers of what the journal answers
abbrev pub round_of : Result CheckedRun CheckpointFault → Result CheckpointRound CheckpointFault
round_of (Ok run) = Ok (Home run)
round_of (Err fault) = Err fault

-- of no groups the first ones are none
none-first : (most : ℕ) (gs : List Group) → 0 < most → take most gs ≡ [] → gs ≡ []
none-first most [] some none = refl
none-first zero (g ∷ gs) some none = absurd (omega (arith, some))
none-first (suc most) (g ∷ gs) some none = cc

-- a call of the disk that failed is counted, unless the count was at its top
pub more-counted : (start before after : ℕ) → start ≤ before → MoreFaults before after → start < 18446744073709551615 → after ≡ start → ⊥
more-counted start before after low more few same = omega (arith, low, few, same)

-- ---- what is known of the handles

-- the same handles, of each of which this is known
pub given-as : {D : Type 0} (known less : Stopped → Type 0) (given : List Stopped) (bounds : List ℕ) (d : OpenDeck D) → All less given → WasGiven known given bounds d → WasGiven less given bounds d
given-as known less given bounds d stopped has = record {
  stopped = stopped;
  tickets = has.tickets;
  settled = has.settled;
  all = has.all;
  cut = has.cut;
  groups = has.groups;
  costs = has.costs;
  first = has.first;
  numbers = has.numbers;
  next = has.next;
}

-- the same journal, where less is known of each of the handles
abbrev pub is-weaker : {D : Type 0} (G : Ghosts D) (b : Begun) (known less : Stopped → Type 0) → ((h : Stopped) → known h → less h) → (d : OpenDeck D) → IsSinceOf G b known d → IsSinceOf G b less d
is-weaker G b known less weaker d is = record { given = is.given; bounds = is.bounds; has = given-as known less is.given is.bounds d (All-weaker known less weaker is.given is.has.stopped) is.has; since = is.since; asked = is.asked }

-- where no more is known than that the handle stopped with words that a handle may stop with
abbrev pub plain-is : {D : Type 0} (G : Ghosts D) (b : Begun) (known : Stopped → Type 0) → ((h : Stopped) → known h → b.stops h.words) → (d : OpenDeck D) → IsSinceOf G b known d → IsSince G b d
plain-is G b known plain d is = is-weaker G b known (may_stop b) plain d is

-- ---- a call by which nothing is given

-- the journal knows what it knew, but which groups are live, and that it may have failed
pub record IsStill {D : Type 0} (G : Ghosts D) (old new : OpenDeck D) : Type 0 where
  pub shape : new.shape ≡ old.shape
  pub trail : new.trail ≡ old.trail
  pub next : new.log.next ≡ old.log.next
  pub same : SameJournal old.log.sb new.log.sb
  pub no_fewer : G.faults old.disk ≤ G.faults new.disk

pub still-as : {D : Type 0} (G : Ghosts D) (old new : OpenDeck D) (failed : Bool) → new ≡ record old { disk = new.disk; aborted = failed } → G.faults old.disk ≤ G.faults new.disk → IsStill G old new
still-as {D = D} G old new failed is more = record {
  shape = cc;
  trail = cc;
  next = ap (λ (d : OpenDeck D). d.log.next) is;
  same = subst (λ (d : OpenDeck D). SameJournal old.log.sb d.log.sb) (sym is) refl;
  no_fewer = more;
}

module _ {D : Type 0} (G : Ghosts D) (counts_now : CountsNow G) (b : Begun) (known : Stopped → Type 0) (old new : OpenDeck D) (kept : KeptOn G CountsAny old.disk new.disk) where
  abbrev pub None : Image → Type 0
  None c = RecoversWith (stood_on G old) [] c

  abbrev pub LeavesNone : Type 0
  LeavesNone = old.aborted ≡ false → G.honest new.disk → LeavesOnly G.moment G.left_since old.disk new.disk None

  -- unless it fails, the homes stand as they did, and the live groups have the last words of what was given
  abbrev pub Stays : Type 0
  Stays = (given : List Stopped) → LiveOf given old.groups → new.aborted ≡ false → ((home : ℕ) → deck_homes G.newest new home ≡ deck_homes G.newest old home) × LiveOf given new.groups

  module _ (up : old.aborted ≡ false) (still : IsStill G old new) where
    given-still : (given : List Stopped) (bounds : List ℕ) → WasGiven known given bounds old → WasGiven known given bounds new
    given-still given bounds has = record {
      stopped = has.stopped;
      tickets = has.tickets;
      settled = subst (λ es. past_after 0 es ≤ length given) (sym still.trail) has.settled;
      all = λ on. has.all up ∙ ap (past_after 0) (sym still.trail);
      cut = has.cut;
      groups = record {
        early = has.groups.early;
        late = has.groups.late;
        is = subst (λ es. bounds ≡ (has.groups.early ++ start_of es ∷ map (λ (e : Entry). e.past) es) ++ has.groups.late) (sym still.trail) has.groups.is;
        all = λ on. has.groups.all up;
      };
      costs = subst (λ (x : Shape × List Entry). All (IsCosted x.0 given) x.1) (λ i. (sym still.shape i, sym still.trail i)) has.costs;
      first = has.first;
      numbers = subst (NumberedFrom has.first) (sym still.trail) has.numbers;
      next = ap (λ es. has.first + length es) still.trail ∙ has.next ∙ sym still.next;
    }

    module _ (leaves : LeavesNone) (given : List Stopped) (bounds : List ℕ) (has : WasGiven known given bounds old) (s : Since G b given bounds old) (held : G.honest new.disk) where
      -- each image that a crash leaves has all that were settled
      first-still : LeavesOnly G.moment G.left_since old.disk new.disk (HasFirst b given bounds (past_after 0 old.trail))
      first-still =
          weaken G.moment G.left_since old.disk new.disk None (HasFirst b given bounds (past_after 0 old.trail))
          (λ c f. first-none b old.log.sb s.same (G.size old.disk) (G.count old.disk) s.same_size s.same_count given (deck_homes G.newest old) (s.stood up) bounds s.groups (s.settled ∙ ap Some (sym (has.all up))) (past_after 0 old.trail) old.log.next c has.settled s.number f)
          (leaves up held)

      since-still : (b.faults < 18446744073709551615 → G.faults new.disk ≡ b.faults → new.aborted ≡ false) → Stays → Since G b given bounds new
      since-still fails stays = record {
        same_size = kept.same_size ∙ s.same_size;
        same_count = kept.same_count ∙ s.same_count;
        no_fewer = omega arith;
        up = fails;
        same = same-then b.own old.log.sb new.log.sb s.same still.same;
        groups = s.groups;
        settled = s.settled ∙ ap (λ es. Some (past_after 0 es)) (sym still.trail);
        number = still.next ∙ s.number;
        began = λ starts. still.next ∙ s.began (ap start_of (sym still.trail) ∙ starts) ∙ ap (λ es. b.own.sequence + 1 + length es) (sym still.trail);
        stood = λ on home. subst (StandsBy (word given home) (b.homes home)) (sym ((stays given (s.live up) on).0 home)) (s.stood up home);
        live = λ on. (stays given (s.live up) on).1;
        now = λ c may. subst (λ es. HasFirst b given bounds (past_after 0 es) c) (sym still.trail) (first-still.each c (counts_now new.disk (G.moment old.disk) c held first-still.later may));
        later = let on = first-still.later in omega (arith, on);
        ever = ever-on G b given given bounds bounds (past_after 0 old.trail) old new (λ least c f. f) s first-still;
      }

    pub still-marked : (ms : List (OpenDeck D)) → HasCalled G old new → (b.faults ≤ G.faults old.disk → b.faults < 18446744073709551615 → G.faults new.disk ≡ b.faults → new.aborted ≡ false) → (G.honest new.disk → Stays) → LeavesNone → IsMarkedOf G b known ms old → IsMarkedOf G b known ms new
    still-marked ms call fails stays leaves is =
        let given = is.since.given in
        let bounds = is.since.bounds in
        let past : past_after 0 new.trail ≡ past_after 0 old.trail = ap (past_after 0) still.trail in
        let before = λ (known_start : b.is_known) (held : G.honest new.disk). is.since.since known_start (kept.was_honest held) in
        record {
          since = record {
            given = given;
            bounds = bounds;
            has = given-still given bounds is.since.has;
            asked = asked-on G call is.since.asked;
            since = λ known_start held. (let s = before known_start held in since-still leaves given bounds is.since.has s held (fails s.no_fewer) (stays held));
          };
          marks_last = kept-all G b given given bounds bounds old new still.shape kept.was_honest (omega (arith, past)) (λ least c f. f) (λ known_start held. first-still leaves given bounds is.since.has (before known_start held) held) ms is.marks_last;
        }

  -- ---- the oldest groups go home

  pub checkpoint-marked : (ms : List (OpenDeck D)) (most : ℕ) (r : Result CheckedRun CheckpointFault) → AnswersRun most (G.faults old.disk) (G.faults new.disk) old new r → (G.honest new.disk → OnOk r (Checkpoints G.newest old new)) → LeavesNone → IsMarkedOf G b known ms old → IsMarkedOf G b known ms new
  checkpoint-marked ms most (Ok run) answers checkpoints leaves is =
      let takes = answers.2 in
      let still : IsStill G old new = record {
        shape = takes.shape;
        trail = takes.trail;
        next = ap (λ l. l.next) takes.log;
        same = subst (λ l. SameJournal old.log.sb l.sb) (sym takes.log) refl;
        no_fewer = omega arith;
      } in
      still-marked answers.0 still ms (checkpoint_up_to most (Ok run) kept answers) (λ low few none. takes.live)
      (λ held given live on. ((checkpoints held).standing, subst (λ hs. LiveOf hs new.groups) (append-nil given) (ended-is-call G.newest given old [] new live (checkpointed most run new takes (checkpoints held))).1))
      leaves is
  checkpoint-marked ms most (Err checkpoint.Aborted) answers checkpoints leaves is = subst (IsMarkedOf G b known ms) (sym answers.1) is
  checkpoint-marked ms most (Err checkpoint.Nothing) answers checkpoints leaves is = subst (IsMarkedOf G b known ms) (sym answers.2) is
  checkpoint-marked ms most (Err checkpoint.DeviceFault) answers checkpoints leaves is =
      still-marked answers.0 (still-as G old new true answers.3 answers.2.no_fewer) ms (checkpoint_up_to most (Err checkpoint.DeviceFault) kept answers)
      (λ low few none. absurd (more-counted b.faults (G.faults old.disk) (G.faults new.disk) low answers.2 few none))
      (λ held given live on. cc (answers.3, on))
      leaves is

  -- ---- a home is read

  -- what a crash leaves of a read
  abbrev As : Image → Type 0
  As c = IsAsBefore (stood_on G old) (G.newest old.disk) c

  abbrev LeavesAs : Type 0
  LeavesAs = old.aborted ≡ false → G.honest new.disk → LeavesOnly G.moment G.left_since old.disk new.disk As

  abbrev Content : Type 0
  Content = G.honest new.disk → G.newest new.disk ≡ G.newest old.disk

  -- the home was read, or the disk did not read it
  called : (ms : List (OpenDeck D)) → HasCalled G old new → old.aborted ≡ false → new ≡ on_disk old new.disk → G.faults old.disk ≤ G.faults new.disk → Content → LeavesAs → IsMarkedOf G b known ms old → IsMarkedOf G b known ms new
  called ms call up same more content leaves is =
      still-marked up (still-as G old new old.aborted same more) ms call
      (λ low few none. ap (λ (d : OpenDeck D). d.aborted) same ∙ up)
      (λ held given live on. (
        λ home. ap (λ (d : OpenDeck D). deck_homes G.newest d home) same ∙ ap (λ image. standing old.log old.groups image home) (content held),
        subst (λ (d : OpenDeck D). LiveOf given d.groups) (sym same) live,
      ))
      (λ on held. weaken G.moment G.left_since old.disk new.disk As None (λ c was. was.follows) (leaves on held))
      is

  pub read-marked : (ms : List (OpenDeck D)) → ReadsOn G old.disk new.disk → (home bytes : ℕ) (r : Result (Unit {0}) ReadHomeFault) → AnswersRead (G.size old.disk) (G.faults old.disk) (G.faults new.disk) old new home bytes r → Content → LeavesAs → IsMarkedOf G b known ms old → IsMarkedOf G b known ms new
  read-marked ms reads home bytes (Ok done) answers content leaves is = called ms (read_home (G.size old.disk) home bytes (Ok done) (record { kept = kept; unsynced = reads }) answers) answers.0 answers.4 (omega arith) content leaves is
  read-marked ms reads home bytes (Err Aborted) answers content leaves is = subst (IsMarkedOf G b known ms) (sym answers.1) is
  read-marked ms reads home bytes (Err OutOfRange) answers content leaves is = subst (IsMarkedOf G b known ms) (sym answers.2) is
  read-marked ms reads home bytes (Err Length) answers content leaves is = subst (IsMarkedOf G b known ms) (sym answers.3) is
  read-marked ms reads home bytes (Err DeviceFault) answers content leaves is = called ms (read_home (G.size old.disk) home bytes (Err DeviceFault) (record { kept = kept; unsynced = reads }) answers) answers.0 answers.4 answers.3.no_fewer content leaves is

pub read-home : {D : Type 0} (G : Ghosts D) (b : Begun) (known : Stopped → Type 0) (old new : OpenDeck D) → KeptOn G CountsAny old.disk new.disk
    → (log : List WordMap) (marks marks_after : List (OpenDeck D)) (at : ℕ) (home bytes : ℕ) (found : List ℕ) (r : Result (Unit {0}) ReadHomeFault) → ((h : Stopped) → known h → IsStop b log h) → All (HasSettledOf old) marks → StandsIn marks_after (at, new)
    → AnswersRead (G.size old.disk) (G.faults old.disk) (G.faults new.disk) old new home bytes r
    → (G.honest new.disk → OnOk r (found ≡ standing old.log old.groups (G.newest old.disk) home)) → (G.honest new.disk → G.newest new.disk ≡ G.newest old.disk) → IsSinceOf G b known old → IsSinceOf G b known new → ReadsHome G b log marks marks_after home bytes found r
read-home G b known old new kept log marks marks_after at home bytes found r stop settled marked answers reads content is after = record {
  old = old;
  new = new;
  same_disk = kept;
  answers = answers;
  stands = λ known_start held. reads held;
  content = λ known_start held. content held;
  before = is-weaker G b known (IsStop b log) stop old is;
  after = is-weaker G b known (IsStop b log) stop new after;
  settled = settled;
  at = at;
  marked = marked;
}

-- ---- what a round says

module _ {D : Type 0} (G : Ghosts D) (b : Begun) (known : Stopped → Type 0) (plain : (h : Stopped) → known h → b.stops h.words) (old new : OpenDeck D) (kept : KeptOn G CountsAny old.disk new.disk) (is : IsSinceOf G b known old) (after : IsSinceOf G b known new) where
  pub checkpoint-round : (r : Result Checked CheckpointFault) → AnswersRun 1 (G.faults old.disk) (G.faults new.disk) old new (as_run r) → (G.honest new.disk → OnOk r (Checkpoints G.newest old new)) → ChecksRound G b r
  checkpoint-round (Ok checked) answers checkpoints = record {
    old = old;
    new = new;
    same_disk = kept;
    up = answers.0;
    takes = answers.2;
    checkpoints = λ known_start held. checkpoints held;
    before = plain-is G b known plain old is;
    after = plain-is G b known plain new after;
  }
  checkpoint-round (Err checkpoint.Aborted) answers checkpoints = record { deck = old; since = plain-is G b known plain old is; failed = answers.0 }
  checkpoint-round (Err checkpoint.Nothing) answers checkpoints = record { deck = old; since = plain-is G b known plain old is; up = answers.0; none = none-first 1 old.groups (omega arith) answers.1 }
  checkpoint-round (Err checkpoint.DeviceFault) answers checkpoints = record { deck = new; since = plain-is G b known plain new after; failed = cc (answers.3) }

  -- the same at a level, where as many blocks were in use unless the journal had failed
  pub round-at : (level : ℕ) (high : old.aborted ≡ false → level ≤ blocks_in_use old) (r : Result CheckedRun CheckpointFault) → AnswersRun most_at_once (G.faults old.disk) (G.faults new.disk) old new r → (G.honest new.disk → OnOk r (Checkpoints G.newest old new))
      → ChecksAt G b level (round_of r)
  round-at level high (Ok run) answers checkpoints = record {
    old = old;
    new = new;
    same_disk = kept;
    up = answers.0;
    high = high answers.0;
    takes = answers.2;
    checkpoints = λ known_start held. checkpoints held;
    before = plain-is G b known plain old is;
    after = plain-is G b known plain new after;
  }
  round-at level high (Err checkpoint.Aborted) answers checkpoints = record { deck = old; since = plain-is G b known plain old is; failed = answers.0 }
  round-at level high (Err checkpoint.Nothing) answers checkpoints =
      let empty = none-first most_at_once old.groups (omega arith) answers.1 in
      let none : blocks_in_use old ≡ 0 = ap (λ gs. log_blocks (transactions old.log gs)) empty in
      let some : level ≤ blocks_in_use old = high answers.0 in
      (omega (arith, none, some), record { deck = old; since = plain-is G b known plain old is; up = answers.0; none = empty })
  round-at level high (Err checkpoint.DeviceFault) answers checkpoints = record { deck = new; since = plain-is G b known plain new after; failed = cc (answers.3) }
