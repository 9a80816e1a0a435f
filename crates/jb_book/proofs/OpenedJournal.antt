-- A journal that was just opened stands as it must, and what was asked of the disk of one that is closed.
use Rattle.std.proofs.Common.{◌≡◌, ◌⊎◌, ℕ, ◌+◌, ◌<◌, ◌≤◌, List, [], ◌∷◌, length, Option, Some, None, Result, Ok, Err, IfOk, MatchResult, inl, ⊎_elim, refl, ap, sym, subst, ◌∙◌, arith}
use Rattle.std.proofs.lemmas.List.Elements.{All-nil}
use Rattle.jb_disk.specs.Image.{Image}
use Rattle.jb_disk.specs.Faults.{most_faults}
use Rattle.jb_disk.specs.KeptOn.{KeptOn}
use Rattle.jb_disk.specs.declared.disk.Disk.{Ghosts}
use Rattle.jb_disk.specs.Time.{LeavesOnly}
use Rattle.jb_format.specs.Front.{super_on}
use Rattle.jb_group.specs.LastWord.{word_in}
use Rattle.jb_group.specs.declared.group.Group.{Group}
use Rattle.jb_handle.specs.declared.shape.Shape.{Shape}
use Rattle.jb_handle.specs.declared.stopped.Stopped.{Stopped}
use Rattle.jb_handle.specs.declared.word.Word.{Word}
use Rattle.jb_format.specs.Ready.{revoking}
use Rattle.jb_super.specs.Journal.{SameJournal}
use Rattle.jb_super.specs.Superblock.{Superblock}
use Rattle.jb_deck.specs.Deck.{IsShapeOf, OpenDeck}
use Rattle.jb_deck.specs.Done.{past_after}
use Rattle.jb_log.specs.Follows.{RecoversWith}
use Rattle.jb_disk.specs.Throughout.{AllHave}
use Rattle.jb_deck.specs.Open.{CountsOpen, FollowsEntry, IsNew, Opens, RefusesOpen, disk_in, opened_log, recovered_home}
use Rattle.jb_deck.specs.declared.fault.OpenFault.{OpenFault}
use Rattle.jb_log.specs.declared.log.Log.{Log}
use Rattle.jb_deck.specs.Since.{LiveOf, deck_homes}
use Rattle.jb_book.specs.Origin.{Begun, own_on, revoking_in}
use Rattle.jb_book.specs.OpenDisk.{WasOpenedAs}
use Rattle.jb_book.specs.Since.{IsBegunOn, IsCosted, IsSince, NoneAfterAtDesk}
use Rattle.jb_log.specs.Stood.{stood_by}
use Rattle.jb_book.proofs.MarksLast.{first-none}
use Rattle.jb_deck.proofs.OpenedJournal.{revoking-same}

none-live : (gs : List Group) → gs ≡ [] → LiveOf [] gs
none-live gs none home w is = let never : ◌≡◌ {A = Option Word} None (Some w) = sym (ap (λ hs. word_in hs home) none) ∙ is in absurd (let h : ⊥ = cc in h)

-- the superblock of a journal that was opened is that of the start, and the next number comes after its own
opened-own : (size count : ℕ) (c : Image) (own : Superblock) (l : Log) (sb : Superblock) → super_on size count c ≡ Ok sb → l ≡ opened_log sb → own_on size count c ≡ own
    → SameJournal own l.sb × (l.next ≡ own.sequence + 1)
opened-own size count c own l sb taken log is =
    let same : revoking sb ≡ own = ap revoking_in (sym taken) ∙ is in (
      subst (λ (k : Log). SameJournal own k.sb) (sym log) (subst (λ o. SameJournal o (opened_log sb).sb) same refl),
      ap (λ (k : Log). k.next) log ∙ ap (λ n. n + 1) (sym (revoking-same sb).sequence ∙ ap (λ (s : Superblock). s.sequence) same),
    )

-- ---- what opening answers

module _ {D : Type 0} (G : Ghosts D) (disk : D) where
  abbrev Opened : Type 0
  Opened = Result (OpenDeck D) (D × OpenFault)

  abbrev OpensAs : Opened → Type 0
  OpensAs r = G.honest (disk_in r) → MatchResult r
      (λ deck. Opens (G.size disk) (G.count disk) (G.newest disk) (G.newest deck.disk) deck.log)
      (λ refused. RefusesOpen (G.size disk) (G.count disk) (G.newest disk) (G.newest refused.0) refused.1)

  pub open-opened : (r : Opened) → KeptOn G (CountsOpen r) disk (disk_in r) → OpensAs r
      → IfOk r (λ deck. (shape : Shape) → IsShapeOf deck.log.sb (G.count deck.disk) shape → WasOpenedAs G disk shape deck)
  open-opened (Ok deck) kept opens = λ shape journal. record { kept = kept; opens = opens; journal = journal }
  open-opened (Err refused) kept opens = tt

  pub open-since : ((d : D) (t : ℕ) (c : Image) → G.honest d → t ≤ G.moment d → G.may_leave d c → G.left_since d t c)
      → (b : Begun) → IsBegunOn G b disk → (r : Opened) → KeptOn G (CountsOpen r) disk (disk_in r) → IfOk r IsNew → OpensAs r
      → (G.honest (disk_in r) → LeavesOnly G.moment G.left_since disk (disk_in r) (λ c. G.may_leave disk c ⊎ FollowsEntry (G.size disk) (G.count disk) (G.newest disk) c))
      → (G.honest (disk_in r) → IfOk r (λ deck. AllHave G.may_leave deck.disk (RecoversWith (stood_by G deck.log disk (recovered_home (G.size disk) (G.count disk) (G.newest disk))) [])))
      → (G.honest (disk_in r) → IfOk r (λ deck. (home : ℕ) → deck_homes G.newest deck home ≡ recovered_home (G.size disk) (G.count disk) (G.newest disk) home))
      → IfOk r (IsSince G b)
  open-since counts_now b begun (Ok deck) kept new opens leaves now stands =
      let past : past_after 0 deck.trail ≡ 0 = ap (past_after 0) new.trail in
      let none : length deck.trail ≡ 0 = ap length new.trail in
      record {
        given = [];
        bounds = 0 ∷ [];
        has = record {
          stopped = All-nil (λ (x : Stopped). b.stops x.words);
          tickets = tt;
          settled = omega (arith, past);
          all = λ up. sym past;
          cut = (refl, refl);
          groups = record { early = []; late = []; is = rw new.trail refl; all = λ up. refl };
          costs = rw new.trail (All-nil (IsCosted deck.shape []));
          first = deck.log.next;
          numbers = rw new.trail tt;
          next = omega (arith, none);
        };
        asked = λ none few.
            let (well, go) = begun.asked none in
            let stayed : G.faults deck.disk ≡ G.faults disk = kept.counted in
            let before : G.faults disk < most_faults = omega (arith, few, stayed) in
            (kept.asked before go well, λ up. kept.going before go stayed);
        since = λ known_start held.
            let honest_on = kept.was_honest held in
            let op = opens held in
            let left = leaves held in
            let (same, numbered) = opened-own (G.size disk) (G.count disk) (G.newest disk) b.own deck.log op.sb op.taken op.log begun.own in
            record {
              same_size = kept.same_size ∙ begun.same_size;
              same_count = kept.same_count ∙ begun.same_count;
              no_fewer = let stayed : G.faults deck.disk ≡ G.faults disk = kept.counted in omega (arith, stayed);
              up = λ few none. new.aborted;
              same = same;
              groups = 0;
              settled = ap Some (sym past);
              number = omega (arith, numbered);
              began = λ starts. omega (arith, none, numbered);
              stood = λ up home. stands held home ∙ begun.homes home;
              live = λ up. none-live deck.groups new.groups;
              now = λ c may.
                  first-none b deck.log.sb same (G.size disk) (G.count disk) begun.same_size begun.same_count [] (recovered_home (G.size disk) (G.count disk) (G.newest disk)) begun.homes (0 ∷ []) 0 refl
                  (past_after 0 deck.trail) deck.log.next c (omega (arith, past)) (omega (arith, numbered)) ((now held).each c may);
              later = omega arith;
              ever = λ c was.
                  inl (⊎_elim (begun.ever known_start honest_on c)
                  (⊎_elim (λ (may : G.may_leave disk c). begun.ever known_start honest_on c (counts_now disk b.since c honest_on begun.later may)) (begun.opening c))
                  (left.before b.since c begun.later was));
            };
      }
  open-since counts_now b begun (Err refused) kept new opens leaves now stands = tt

-- ---- the disk of a desk that was closed

pub none-after : {D : Type 0} (G : Ghosts D) (b : Begun) → NoneAfterAtDesk G b
none-after G b disk trail ends none few =
    subst G.well_asked ends.same_disk (ends.since.asked none (subst (λ d. G.faults d < most_faults) (sym ends.same_disk) few)).0
