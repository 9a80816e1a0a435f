-- A run whose handles are posted: each of those that the journal was given is, and so the money is conserved.
use Rattle.std.proofs.Common.{◌≡◌, ℕ, zero, suc, ◌+◌, ◌<◌, ◌≤◌, Bool, true, false, cond, List, [], ◌∷◌, All, length, get_or, nat_eq, sum_by, Result, Some, None, slice_get, inl, inr, refl, sym, ap, subst, ◌∙◌, ⊎_elim, append-nil, arith}
use Rattle.std.proofs.lemmas.Bool.{eqb-true, eq-eqb}
use Rattle.std.proofs.lemmas.List.{length-map, take_all}
use Rattle.std.proofs.lemmas.List.Elements.{All-append, All-nil, All-weaker}
use Rattle.std.proofs.lemmas.List.Sums.{sum_by-cons}
use Rattle.std.proofs.lemmas.Option.{same_Some, slice_get_within}
use Rattle.jb_board.proofs.EntryPlaces.{at-place}
use Rattle.jb_disk.specs.Image.{block}
use Rattle.jb_handle.specs.declared.shape.Shape.{Shape}
use Rattle.jb_journal.proofs.KnownStays.{ticket-at}
use Rattle.jb_journal.specs.Client.{AreHonest}
use Rattle.jb_journal.specs.Names.{Begun, Ghosts, StandsBy, StandsIn, Stopped, WordMap, joined, with_places, word}
use Rattle.jb_journal.specs.Notes.{Stop}
use Rattle.jb_journal.specs.Run.{RanAll, RanOn}
use Rattle.jb_journal.specs.Start.{started_on}
use Rattle.jb_journal.specs.declared.journal_fault.JournalFault.{JournalFault}
use Rattle.jb_journal.specs.declared.ran.Ran.{Ran}
use Rattle.example_accounts.specs.Conserved.{Conserves, HoldsThroughout, TellsEnds, ended_of}
use Rattle.example_accounts.specs.Postings.{ArePostings, IsPosted}
use Rattle.example_accounts.specs.declared.moving.Moved.{Moved}
use Rattle.example_accounts.specs.declared.posting.Posting.{Posting}
use Rattle.example_accounts.proofs.HandlesPosted.{posted-on}
use Rattle.example_accounts.proofs.MoneyHeld.{entry-recovers, first-recover, throughout}

-- ---- lists

-- what holds of each of some lists holds of all that are joined
all-joined : {A : Type 0} (P : A → Type 0) (lists : List (List A)) → ((at : ℕ) (none : List A) → at < length lists → All P (get_or lists at none)) → All P (joined lists)
all-joined P [] each = All-nil P
all-joined P (xs ∷ lists) each = All-append P xs (joined lists) (each 0 [] (omega arith)) (all-joined P lists (λ at none lt. each (suc at) none (omega (arith, lt))))

-- a list that is not empty has an element
some-of : {A : Type 0} (xs : List A) (n : ℕ) → n < length xs → A
some-of [] n lt = absurd (omega (arith, lt))
some-of (x ∷ xs) n lt = x

-- the first element, where it weighs something, or one of the others
first-weight : {A : Type 0} (f : A → ℕ) (x : A) (xs : List A) (w : ℕ) → f x ≡ w → (f x ≡ 0 → (k : ℕ) × (y : A) × (slice_get xs k ≡ Some y) × (0 < f y)) → (k : ℕ) × (y : A) × (slice_get (x ∷ xs) k ≡ Some y) × (0 < f y)
first-weight f x xs zero none others = let rest = others none in (suc rest.0, rest.1, rest.2, rest.3)
first-weight f x xs (suc w) one others = (0, x, refl, omega (arith, one))

-- an element of some weight, where all weigh something
some-weight : {A : Type 0} (f : A → ℕ) (xs : List A) → 0 < sum_by f xs → (k : ℕ) × (x : A) × (slice_get xs k ≡ Some x) × (0 < f x)
some-weight f [] some = absurd (omega (arith, some))
some-weight f (x ∷ xs) some = first-weight f x xs (f x) refl (λ none. some-weight f xs (omega (arith, some, sum_by-cons f x xs, none)))

-- the weight of the entries with this ticket
abbrev at_ticket : ℕ → Stop → ℕ
at_ticket n s = cond (nat_eq s.0 n) 1 0

weighs-none : (a n : ℕ) → nat_eq a n ≡ false → 0 < cond (nat_eq a n) 1 0 → a ≡ n
weighs-none a n differ some = let no : 0 < 0 = subst (λ v. 0 < cond v 1 0) differ some in absurd (omega (arith, no))

weighs : (a n : ℕ) → 0 < cond (nat_eq a n) 1 0 → a ≡ n
weighs a n some = go (nat_eq a n) refl
  where
    go : (v : Bool) → nat_eq a n ≡ v → a ≡ n
    go true e = eqb-true a n e
    go false e = weighs-none a n e some

place-weight : (n : ℕ) (log : List WordMap) (first k : ℕ) → k < length log → first + k ≡ n → 0 < sum_by (at_ticket n) (with_places first log)
place-weight n [] first k lt is = absurd (omega (arith, lt))
place-weight n (w ∷ log) first zero lt is =
    let same : first ≡ n = omega (arith, is) in
    let one : at_ticket n (first, w) ≡ 1 = ap (λ v. cond v 1 0) (eq-eqb first n same) in
    omega (arith, one, sum_by-cons (at_ticket n) (first, w) (with_places (suc first) log))
place-weight n (w ∷ log) first (suc k) lt is =
    let rest = place-weight n log (suc first) k (omega (arith, lt)) (omega (arith, is)) in
    omega (arith, rest, sum_by-cons (at_ticket n) (first, w) (with_places (suc first) log))

-- ---- a run

module _ {T D : Type 0} (G : Ghosts D) (b : Begun) (ps : List Posting) (workers : ℕ) (shape : Shape) (ran : Ran T D)
    (all : RanAll G b (λ sure many at stops known ended. All (IsPosted b sure ps) stops) workers shape ran) (held : G.honest ran.disk) where
  all-posted : All (IsPosted b (Unit {0}) ps) (joined all.stopped)
  all-posted = all-joined (IsPosted b (Unit {0}) ps) all.stopped (λ at none lt. (
      let within : at < workers = let n = all.answers.same in omega (arith, lt, n) in
      let saw : at < length all.seen = let n = all.answers.saw in omega (arith, within, n) in
      let answered : at < length ran.answers.items = let n = all.answers.number in omega (arith, within, n) in
      let sure : AreHonest G (get_or all.seen at []) = all.honest held at [] saw in
      All-weaker (IsPosted b (AreHonest G (get_or all.seen at [])) ps) (IsPosted b (Unit {0}) ps)
      (λ s is. posted-on b (AreHonest G (get_or all.seen at [])) (Unit {0}) ps ps (λ u. sure) ([], append-nil ps) s is)
      (get_or all.stopped at none)
      (all.answers.each at none (record { log = []; notes = [] }) [] (some-of ran.answers.items at answered) within)))

  posted-at : (n : ℕ) (words : WordMap) → slice_get all.ends.log n ≡ Some words → IsPosted b (Unit {0}) ps (n, words)
  posted-at n words at =
      let log = all.ends.log in
      let stops = joined all.stopped in
      let here : 0 + n ≡ n = omega arith in
      let weight : 0 < sum_by (at_ticket n) stops = subst (λ m. 0 < m) (sym (all.ends.stopped.once (at_ticket n))) (place-weight n log 0 n (slice_get_within log n words at) here) in
      let found = some-weight (at_ticket n) stops weight in
      let same : found.1.0 ≡ n = weighs found.1.0 n found.3 in
      let stands : slice_get log found.1.0 ≡ Some found.1.1 = at-place (StandsIn log) stops found.0 found.1 found.2 all.ends.stopped.stand in
      let its : found.1.1 ≡ words = same_Some found.1.1 words (sym stands ∙ ap (slice_get log) same ∙ at) in
      subst (IsPosted b (Unit {0}) ps) (λ i. (same i, its i)) (at-place (IsPosted b (Unit {0}) ps) stops found.0 found.1 found.2 all-posted)

  given-posted : (n : ℕ) (d : Stopped) → n < length all.ends.since.given → IsPosted b (Unit {0}) ps (n, (get_or all.ends.since.given n d).words)
  given-posted n d lt =
      let has = all.ends.since.has in
      let h = get_or all.ends.since.given n d in
      let at = ticket-at 0 all.ends.since.given has.tickets n d lt in
      let ticket : h.ticket ≡ n = omega (arith, at) in
      let is : slice_get all.ends.log h.ticket ≡ Some h.words = (has.stopped n d lt).1 in
      posted-at n h.words (subst (λ k. slice_get all.ends.log k ≡ Some h.words) ticket is)

pub conserved : {T D : Type 0} (G : Ghosts D) (disk : D) (ps : List Posting) (ran : Ran T D) → ArePostings None ps
    → RanOn G disk (started_on G disk) (λ shape sure workers at stops known ended. All (IsPosted (started_on G disk) sure ps) stops) 4 ran → Conserves G disk ran
conserved G disk ps ran are on =
    let b = started_on G disk in
    let all = on.all in
    let given = all.ends.since.given in
    let through : G.honest ran.disk → HoldsThroughout b given = λ held. throughout b tt ps are given (given-posted G b ps 4 on.shape ran all held) in
    let same = all.ends.same_disk in
    let whole : length given ≤ length given = omega arith in
    record {
      postings = ps;
      follow = are;
      on = on;
      holds = through;
      crash = λ held c left. ⊎_elim
          (λ early. ⊎_elim (λ before. inl before) (λ entry. inr (entry-recovers b given (G.newest disk) c (λ home. refl) (through held) entry)) early)
          (λ first. inr (first-recover b given all.ends.since.bounds 0 c (through held) first))
          ((all.ends.since.since tt (subst G.honest (sym same) held)).ever c (subst (λ d. G.left_since d (G.moment disk) c) (sym same) left));
      home = λ held none. through held (length given) (λ home. block (G.newest ran.disk) (b.own.maxlen + home)) (omega arith)
          (λ home. subst (λ hs. StandsBy (word hs home) (b.homes home) (block (G.newest ran.disk) (b.own.maxlen + home))) (sym (take_all (length given) given whole)) (all.home none tt held home));
    }

-- ---- what is told of a run

-- the answers of a run are told: how each worker ended
told-on : {D L : Type 0} (G : Ghosts D) (b : Begun) (disk : D) (workers : ℕ) (ran : Ran (Moved L) D) (told : Ran (Result (Unit {0}) JournalFault) D) → (is : TellsEnds ran told)
    → RanOn G disk b (λ shape sure many at stops known moved. All (IsPosted b sure moved.seen) stops) workers ran
    → RanOn G disk b (λ shape sure many at stops known ended. All (IsPosted b sure is.postings) stops) workers told
told-on G b disk workers ran told is on =
    let all = on.all in
    let answers = all.answers in
    subst (RanOn G disk b (λ shape sure many at stops known ended. All (IsPosted b sure is.postings) stops) workers) (sym is.same)
    record {
      shape = on.shape;
      opened = on.opened;
      all = record {
        stopped = all.stopped;
        known = all.known;
        seen = all.seen;
        answers = record {
          number = ap length is.ended ∙ length-map ran.answers.items ended_of ∙ answers.number;
          same = answers.same;
          knew = answers.knew;
          saw = answers.saw;
          each = λ at none unknown unseen d lt. (
              let within : at < length ran.answers.items = let n = answers.number in omega (arith, lt, n) in
              let other = some-of ran.answers.items at within in
              let moved = get_or ran.answers.items at other in
              let sure = AreHonest G (get_or all.seen at unseen) in
              All-weaker (IsPosted b sure moved.seen) (IsPosted b sure is.postings)
              (λ s posted. posted-on b sure sure moved.seen is.postings (λ h. h) (is.seen at other within) s posted)
              (get_or all.stopped at none) (answers.each at none unknown unseen other lt));
        };
        changes = all.changes;
        ends = all.ends;
        came = all.came;
        last = all.last;
        honest = all.honest;
        used = all.used;
        home = all.home;
      };
    }

pub conserved-by : {D L : Type 0} (G : Ghosts D) (disk : D) (workers : ℕ) → workers ≡ 4 → (ran : Ran (Moved L) D) (told : Ran (Result (Unit {0}) JournalFault) D) → TellsEnds ran told
    → RanOn G disk (started_on G disk) (λ shape sure many at stops known moved. All (IsPosted (started_on G disk) sure moved.seen) stops) workers ran → Conserves G disk told
conserved-by G disk workers four ran told is on =
    let b = started_on G disk in
    conserved G disk is.postings told is.follow
    (told-on G b disk 4 ran told is (subst (λ n. RanOn G disk b (λ shape sure many at stops known moved. All (IsPosted b sure moved.seen) stops) n ran) four on))
