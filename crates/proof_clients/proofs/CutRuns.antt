-- What a crash leaves of a disk once a run over its fuse has ended.
use Rattle.std.proofs.Common.{◌≡◌, ◌≤◌, ℕ, List, All, sym, subst, arith}
use Rattle.std.proofs.lemmas.List.Elements.{All-weaker}
use Rattle.jb_disk.specs.Fuse.{disk_of}
use Rattle.jb_disk.specs.Image.{Image}
use Rattle.jb_disk.specs.declared.disk.Disk.{Ghosts}
use Rattle.jb_disk.specs.declared.fuse.FuseDisk.{FuseDisk}
use Rattle.jb_handle.specs.Word.{WordMap}
use Rattle.jb_handle.specs.declared.shape.Shape.{Shape}
use Rattle.jb_handle.specs.declared.stopped.Stopped.{Stopped}
use Rattle.jb_book.specs.Origin.{Begun}
use Rattle.jb_book.specs.History.{IsStop}
use Rattle.jb_book.specs.Since.{HasFirst, IsSinceOf}
use Rattle.jb_deck.specs.Deck.{OpenDeck}
use Rattle.jb_deck.specs.declared.done.Entry.{Entry}
use Rattle.jb_journal.specs.Notes.{Known, KnownLasts, NoteLasts, Stop, committed_by}
use Rattle.jb_journal.specs.Run.{RanOn}
use Rattle.jb_journal.specs.RunFaults.{IsNotRun, RefusesRun}
use Rattle.jb_journal.specs.Start.{started_on}
use Rattle.jb_journal.specs.declared.fault.RunFault.{RunFault}
use Rattle.jb_journal.specs.declared.fault.RunFault.TheVariants.{Open, Memory, NoThread, Accounts}
use Rattle.jb_journal.specs.declared.not_run.NotRun.{NotRun}
use Rattle.jb_journal.specs.declared.options.Commits.{Commits}
use Rattle.jb_journal.specs.declared.ran.Ran.{Ran}
use Rattle.proof_clients.specs.CutRun.{CountsNow, IsCutNotRun, IsCutRun, LeavesFirst, LeavesKnown, LeavesSome, not_over_fuse, over_fuse}

-- some first handles at least
first-any : (b : Begun) (given : List Stopped) (bounds : List ℕ) (least : ℕ) (c : Image) → HasFirst b given bounds least c → HasFirst b given bounds 0 c
first-any b given bounds least c has = record {
  groups = has.groups;
  many = has.many;
  between = has.between;
  from = omega arith;
  to = has.to;
  recovered = has.recovered;
}

-- what is known of the disk inside a fuse is known of the fuse
module _ {D : Type 0} (F : Ghosts (FuseDisk D)) (G : Ghosts D)
    (honest : (f : FuseDisk D) → G.honest (disk_of f) → F.honest f)
    (leaves : (f : FuseDisk D) (c : Image) → G.may_leave (disk_of f) c → F.may_leave f c)
    (last : FuseDisk D) (counts_now : CountsNow F last) where
  known-first : (fuse : FuseDisk D) (given : List Stopped) (bounds : List ℕ) (log : List WordMap) (trail : List Entry) (knew : Known) → G.honest (disk_of last)
      → KnownLasts F (started_on F fuse) log given bounds last trail knew → LeavesKnown G (started_on F fuse) given bounds (disk_of last) knew
  known-first fuse given bounds log trail knew held lasts =
      All-weaker (NoteLasts F (started_on F fuse) given bounds last trail) (λ n. LeavesFirst G (started_on F fuse) given bounds (disk_of last) (committed_by n))
      (λ n note. record {
        each = λ c left.
            let so = honest last held in
            note.leaves tt so c (counts_now n.moment c so (note.earlier tt so) (leaves last c left));
      }) knew.notes lasts.last

  -- of a journal on the fuse that is as it must be since the start
  since-first : (fuse : FuseDisk D) (is : Stopped → Type 0) (deck : OpenDeck (FuseDisk D)) → deck.disk ≡ last → G.honest (disk_of last)
      → (since : IsSinceOf F (started_on F fuse) is deck) → LeavesFirst G (started_on F fuse) since.given since.bounds (disk_of last) 0
  since-first fuse is deck same held since = record {
    each = λ c left.
        let so = subst F.honest (sym same) (honest last held) in
        let at = subst (λ f. F.may_leave f c) (sym same) (leaves last c left) in
        first-any (started_on F fuse) since.given since.bounds _ c ((since.since tt so).now c at);
  }

  pub cut-run : {T : Type 0} (disk : D) (may : Begun → Shape → Type 0 → ℕ → ℕ → List Stop → Known → T → Type 0) (workers : ℕ) (ran : Ran T D) (fuse : FuseDisk D) → disk_of fuse ≡ disk → ran.disk ≡ disk_of last
      → RanOn F fuse (started_on F fuse) (may (started_on F fuse)) workers (over_fuse last ran) → IsCutRun F G disk may workers ran
  cut-run disk may workers ran fuse begun same over =
      let b = started_on F fuse in
      let ends = over.all.ends in
      let given = ends.since.given in
      let bounds = ends.since.bounds in
      record {
        fuse = fuse;
        begun = begun;
        last = last;
        over = over;
        same_disk = same;
        now = λ held.
            subst (λ d. LeavesFirst G b given bounds d 0) (sym same) (since-first fuse (IsStop b ends.log) ends.deck ends.same_disk (subst G.honest same held) ends.since);
        known = λ held.
            subst (λ d. All (LeavesKnown G b given bounds d) over.all.known) (sym same)
            (All-weaker (KnownLasts F b ends.log given bounds last ran.trail.items) (LeavesKnown G b given bounds (disk_of last))
            (λ knew lasts. known-first fuse given bounds ends.log ran.trail.items knew (subst G.honest same held) lasts) over.all.known over.all.last);
      }

  some-first : {T : Type 0} (fuse : FuseDisk D) (commits : Commits) (may : Shape → Type 0 → ℕ → ℕ → List Stop → Known → T → Type 0) (workers : ℕ) (fault : RunFault) (answers : List T) → G.honest (disk_of last)
      → RefusesRun F fuse (started_on F fuse) commits may workers fault last answers → LeavesSome G (started_on F fuse) (disk_of last) fault
  some-first fuse commits may workers (Open why) answers held is = tt
  some-first fuse commits may workers Memory answers held is = (is.0.none.given, is.0.none.bounds, since-first fuse (λ h. ⊥) is.0.deck is.0.same_disk held is.0.none)
  some-first fuse commits may workers NoThread answers held is = (is.2.none.given, is.2.none.bounds, since-first fuse (λ h. ⊥) is.2.deck is.2.same_disk held is.2.none)
  some-first fuse commits may workers Accounts answers held is =
      (is.2.since.given, is.2.since.bounds, since-first fuse (IsStop (started_on F fuse) is.2.log) is.2.deck is.2.same_disk held is.2.since)

  pub cut-not-run : {T : Type 0} (disk : D) (commits : Commits) (may : Begun → Shape → Type 0 → ℕ → ℕ → List Stop → Known → T → Type 0) (workers : ℕ) (back : NotRun T D) (fuse : FuseDisk D) → disk_of fuse ≡ disk → back.disk ≡ disk_of last
      → IsNotRun F fuse (started_on F fuse) commits (may (started_on F fuse)) workers (not_over_fuse last back) → IsCutNotRun F G disk commits may workers back
  cut-not-run disk commits may workers back fuse begun same over = record {
    fuse = fuse;
    begun = begun;
    last = last;
    over = over;
    same_disk = same;
    now = λ held.
        subst (λ d. LeavesSome G (started_on F fuse) d back.fault) (sym same)
        (some-first fuse commits (may (started_on F fuse)) workers back.fault back.answers.items (subst G.honest same held) over);
  }
