-- What a run leaves, from what its threads left and how its desk was closed.
use Rattle.std.proofs.Common.{◌≡◌, ℕ, ◌<◌, ◌≤◌, Bool, true, List, [], ◌∷◌, ◌++◌, length, get_or, map, Option, None, Some, IfSome, option_to_list, vec_len, refl, sym, ap, ◌∙◌, arith, subst, inl, inr, ⊎_elim}
use Rattle.std.proofs.Math.ListN.{length-map}
use Rattle.std.proofs.lemmas.List.{get_or-map}
use Rattle.jb_book.specs.declared.origin.Origin.{Ghosts}
use Rattle.jb_deck.specs.Deck.{OpenDeck}
use Rattle.jb_disk.specs.declared.disk.Disk.{Ghosts as Disks}
use Rattle.jb_board.specs.declared.place.Place.{Ghosts as Places}
use Rattle.jb_journal.specs.Client.{AreHonest}
use Rattle.jb_journal.specs.Notes.{Known, Stop}
use Rattle.jb_journal.specs.Run.{AreAnswers, HaveWorked, answer_of, known_of_worked, marks_of_worked, stops_of_worked, HasThreaded, RanAll}
use Rattle.jb_journal.specs.declared.threads.WorkerResult.{WorkerResult}
use Rattle.std.specs.List.{sum_by}
use Rattle.jb_cost.specs.Pieces.{joined}
use Rattle.jb_handle.specs.declared.shape.Shape.{Shape}
use Rattle.jb_deck.specs.declared.done.Entry.{Entry}
use Rattle.jb_book.specs.Account.{changed_by}
use Rattle.jb_desk.specs.Seats.{made_left}
use Rattle.jb_desk.proofs.SeatStops.{sums-joined}
use Rattle.jb_desk.specs.declared.desk.closing.Closed.{Closed}
use Rattle.jb_book.specs.History.{CameAbout}
use Rattle.jb_book.specs.Origin.{Begun}
use Rattle.jb_book.specs.Since.{EndsSince}
use Rattle.jb_book.specs.AtHome.{EndsUsing}
use Rattle.jb_book.specs.SinceMark.{EndsSeen}
use Rattle.jb_journal.specs.Gather.{HasEnded, IsClosed, IsGatheredFrom, IsNotTold, IsUntold, answers_of}
use Rattle.jb_journal.specs.RunFaults.{StandsOf, StopsAtDesk}
use Rattle.jb_journal.specs.declared.not_run.NotRun.{NotRun}
use Rattle.jb_journal.specs.declared.options.Commits.{Commits}
use Rattle.jb_journal.specs.declared.options.Commits.TheVariants.{Meanwhile}
use Rattle.jb_journal.specs.declared.thread_results.ThreadResults.{ThreadResults}
use Rattle.jb_journal.specs.declared.ran.Ran.{Ran}
use Rattle.jb_journal.specs.declared.threads.Threaded.{Threaded}
use Rattle.jb_journal.proofs.RunEnds.{all-honest, all-known, came-without, ends-known, seen-of, unused-of}

-- ---- which workers have answered

-- no more answers are there than workers
few-answers : {T : Type 0} (os : List (Option T)) → length (joined (map option_to_list os)) ≤ length os
few-answers [] = omega arith
few-answers (None ∷ os) = let few = few-answers os in omega (arith, few)
few-answers (Some x ∷ os) = let few = few-answers os in omega (arith, few)

-- where as many are there, each worker has answered
all-there : {T : Type 0} (os : List (Option T)) → length (joined (map option_to_list os)) ≡ length os → map (λ (x : T). Some x) (joined (map option_to_list os)) ≡ os
all-there [] same = refl
all-there (None ∷ os) same = absurd (let few = few-answers os in let never : ⊥ = omega (arith, same, few) in never)
all-there (Some x ∷ os) same = ap (λ l. Some x ∷ l) (all-there os (omega (arith, same)))

-- ---- what all workers answered, from what each leaves

module _ {T D H : Type 0} {O : Ghosts H} {P : Places H} (G : Disks D) (may : Type 0 → ℕ → ℕ → List Stop → Known → T → Type 0) (workers : ℕ) (answers : List T) (ws : List (WorkerResult T D H O P)) (worked : HaveWorked G may workers ws) where
  abbrev stops : WorkerResult T D H O P → List Stop
  stops w = stops_of_worked w

  abbrev knew : WorkerResult T D H O P → Known
  knew w = known_of_worked G.moment w

  abbrev saw : WorkerResult T D H O P → List (OpenDeck D)
  saw w = marks_of_worked w

  abbrev told : WorkerResult T D H O P → Option T
  told w = answer_of w

  -- each that was called has answered what it may
  pub are-told : AreAnswers G (λ sure many at stops knows answer. IfSome answer (may sure many at stops knows)) workers (map stops ws) (map knew ws) (map saw ws) (map told ws)
  are-told = record {
    number = length-map ws told ∙ worked.number;
    same = length-map ws stops ∙ worked.number;
    knew = length-map ws knew ∙ worked.number;
    saw = length-map ws saw ∙ worked.number;
    each = λ at none unknown unseen d inside. each at none unknown unseen d inside ws refl;
  }
    where
      each : (at : ℕ) (none : List Stop) (unknown : Known) (unseen : List (OpenDeck D)) (d : Option T) → at < workers → (xs : List (WorkerResult T D H O P)) → xs ≡ ws
          → IfSome (get_or (map told ws) at d) (may (AreHonest G (get_or (map saw ws) at unseen)) workers at (get_or (map stops ws) at none) (get_or (map knew ws) at unknown))
      each at none unknown unseen d inside [] is = absurd (let none : 0 ≡ workers = ap length is ∙ worked.number in let never : ⊥ = omega arith in never)
      each at none unknown unseen d inside (x ∷ xs) is =
          let lt : at < length ws = omega (arith, inside, worked.number) in
          rw (get_or-map stops ws at x none lt, get_or-map knew ws at x unknown lt, get_or-map saw ws at x unseen lt, get_or-map told ws at x d lt) (worked.each at x inside)

  told-lists : (xs : List (WorkerResult T D H O P)) → map answers_of xs ≡ map option_to_list (map told xs)
  told-lists [] = refl
  told-lists (x ∷ xs) = ap (λ l. option_to_list (told x) ∷ l) (told-lists xs)

  module _ (are : answers ≡ joined (map answers_of ws)) where
    -- the answers are those of the workers that were called
    pub are-there : answers ≡ joined (map option_to_list (map told ws))
    are-there = are ∙ ap joined (told-lists ws)

    -- all of them were, where as many answers are there
    pub are-answers : length answers ≡ workers → AreAnswers G may workers (map stops ws) (map knew ws) (map saw ws) answers
    are-answers many = record {
      number = many;
      same = are-told.same;
      knew = are-told.knew;
      saw = are-told.saw;
      each = each;
    }
      where
        same : map (λ (x : T). Some x) answers ≡ map told ws
        same = ap (map (λ (x : T). Some x)) are-there ∙ all-there (map told ws) (ap length (sym are-there) ∙ many ∙ sym are-told.number)

        each : (at : ℕ) (none : List Stop) (unknown : Known) (unseen : List (OpenDeck D)) (d : T) → at < workers
            → may (AreHonest G (get_or (map saw ws) at unseen)) workers at (get_or (map stops ws) at none) (get_or (map knew ws) at unknown) (get_or answers at d)
        each at none unknown unseen d inside =
            let lt : at < length answers = omega (arith, inside, many) in
            let answered : get_or (map told ws) at (Some d) ≡ Some (get_or answers at d) = ap (λ l. get_or l at (Some d)) (sym same) ∙ get_or-map (λ (y : T). Some y) answers at d (Some d) lt in
            subst (λ (o : Option T). IfSome o (may (AreHonest G (get_or (map saw ws) at unseen)) workers at (get_or (map stops ws) at none) (get_or (map knew ws) at unknown))) answered (are-told.each at none unknown unseen (Some d) inside)

-- ---- what a run leaves

-- what is told of a disk and its trail is so since it began
pub since-as : {T D : Type 0} (G : Disks D) (b : Begun) (told : Ran T D) (disk : D) (trail : List Entry) → told.disk ≡ disk → told.trail.items ≡ trail → EndsSince G b disk trail → EndsSince G b told.disk told.trail.items
since-as {D = D} G b told disk trail same_disk same_trail ends = subst (λ (x : D × List Entry). EndsSince G b x.0 x.1) (λ i. (sym same_disk i, sym same_trail i)) ends

module _ {T D H : Type 0} {O : Ghosts H} {P : Places H} (G : Disks D) (b : Begun) where
  -- what was told of a desk that was closed
  pub closed-as : {C : Type 0} (all : ThreadResults T D H O P) (told : Ran T D) (closed : Closed D C) → HasEnded G b all.lefts.items all.seen closed
      → (shape : Shape) → closed.shape ≡ shape → told.disk ≡ closed.disk → told.answers ≡ all.answers → told.handles ≡ closed.handles → told.trail.items ≡ closed.trail.items → told.changes ≡ closed.changes → told.in_log ≡ closed.in_log → (workers : ℕ) → vec_len all.answers ≡ workers → IsClosed G b workers all shape told
  closed-as all told closed ended shape same_shape same_disk same_answers same_handles same_trail same_changes same_log workers number = record {
    answers = same_answers;
    number = ap (λ xs. vec_len xs) same_answers ∙ number;
    changes = same_changes ∙ ended.changes ∙ sym (sums-joined made_left changed_by all.lefts.items);
    ends = subst (λ (x : (((ℕ × Shape) × D) × List Entry) × Option ℕ). EndsUsing G b (map (λ l. made_left l) all.lefts.items) x.0.0.0.0 x.0.0.0.1 x.0.0.1 x.0.1 all.seen.stops all.seen.marks x.1)
        (λ i. ((((sym same_handles i, same_shape i), sym same_disk i), sym same_trail i), sym same_log i)) ended.ends;
    came = subst (λ (x : (Shape × D) × List Entry). CameAbout G b (map (λ l. made_left l) all.lefts.items) x.0.0 x.0.1 x.1) (λ i. ((same_shape i, sym same_disk i), sym same_trail i)) ended.came;
  }

  -- what was run
  pub ran-all : (may : Type 0 → ℕ → ℕ → List Stop → Known → T → Type 0) (workers : ℕ) (ran : Threaded T D H O P) (all : ThreadResults T D H O P) → HasThreaded G may workers ran → IsGatheredFrom ran all
      → (shape : Shape) (told : Ran T D) → IsClosed G b workers all shape told → RanAll G b may workers shape told
  ran-all may workers ran all has gathered shape told closed =
      let ws = ran.workers.items in
      let stopped : List (List Stop) = map (λ (w : WorkerResult T D H O P). stops_of_worked w) ws in
      let made : joined (map made_left all.lefts.items) ≡ joined stopped = gathered.stops ∙ ap (λ xs. xs ++ joined stopped) has.committed in
      let ends = ends-known G b _ stopped told.handles shape told.disk told.trail.items made (λ (w : WorkerResult T D H O P). w.seen) ws all.seen told.in_log closed.ends gathered.seen in
      record {
        stopped = stopped;
        known = map (λ (w : WorkerResult T D H O P). known_of_worked G.moment w) ws;
        seen = map (λ (w : WorkerResult T D H O P). marks_of_worked w) ws;
        answers = are-answers G may workers told.answers.items ws has.worked (ap (λ xs. xs.items) closed.answers ∙ gathered.answers) (let number = closed.number in omega (arith, number));
        changes = closed.changes ∙ ap (sum_by changed_by) made;
        ends = ends.0;
        came = came-without G b _ stopped told.handles shape told.disk told.trail.items made closed.came;
        last = ends.1;
        honest = ends.2;
        used = ends.3;
        home = ends.4;
      }

  -- what stands where there is no whole answer
  pub stands-of : (may : Type 0 → ℕ → ℕ → List Stop → Known → T → Type 0) (workers : ℕ) (ran : Threaded T D H O P) (all : ThreadResults T D H O P) → HasThreaded G may workers ran → IsGatheredFrom ran all
      → (back : NotRun T D) → back.answers ≡ all.answers → EndsSeen G b back.disk all.seen.stops all.seen.marks → StandsOf G b may workers back.disk back.answers.items
  stands-of may workers ran all has gathered back same ends =
      let ws = ran.workers.items in
      record {
        stopped = map (λ (w : WorkerResult T D H O P). stops_of_worked w) ws;
        known = map (λ (w : WorkerResult T D H O P). known_of_worked G.moment w) ws;
        seen = map (λ (w : WorkerResult T D H O P). marks_of_worked w) ws;
        told = map (λ (w : WorkerResult T D H O P). answer_of w) ws;
        answers = are-told G may workers back.answers.items ws has.worked;
        same_answers = are-there G may workers back.answers.items ws has.worked (ap (λ xs. xs.items) same ∙ gathered.answers);
        log = ends.log;
        deck = ends.deck;
        same_disk = ends.same_disk;
        since = ends.since;
        last = all-known G b ends.log ends.since.given ends.since.bounds ends.deck back.disk ends.deck.trail ends.same_disk refl (λ (w : WorkerResult T D H O P). w.seen) ws all.seen ends.knows ends.last gathered.seen;
        honest = all-honest G b ends.log ends.since.given ends.since.bounds ends.deck back.disk ends.deck.trail ends.same_disk refl (λ (w : WorkerResult T D H O P). w.seen) ws all.seen ends.knows ends.last gathered.seen;
      }

  -- why there is none
  pub stops-at : (may : Type 0 → ℕ → ℕ → List Stop → Known → T → Type 0) (workers : ℕ) (ran : Threaded T D H O P) (all : ThreadResults T D H O P) → HasThreaded G may workers ran → IsGatheredFrom ran all
      → (given_up : Bool) (commits : Commits) → (given_up ≡ true → commits ≡ Meanwhile) → (back : NotRun T D) → IsUntold G b all given_up back → StopsAtDesk G b commits may workers back
  stops-at may workers ran all has gathered given_up commits only back untold = ⊎_elim
      (λ is. inl (is, stands-of may workers ran all has gathered back untold.same_answers untold.ends))
      (λ is. inr (is.0, only is.1, is.3, ap (λ xs. xs.items) untold.same_answers ∙ is.2))
      untold.why

  -- what is not told of a desk that was closed
  pub untold-as : {C : Type 0} (all : ThreadResults T D H O P) (closed : Closed D C) → HasEnded G b all.lefts.items all.seen closed → (given_up : Bool) (back : NotRun T D) → IsNotTold closed all.answers given_up back → IsUntold G b all given_up back
  untold-as all closed ended given_up back not = record {
    same_answers = not.same_answers;
    ends = seen-of G b _ closed.handles closed.shape closed.disk closed.trail.items all.seen.stops all.seen.marks ended.ends.marked back.disk not.same_disk;
    why = ⊎_elim inl (λ is. inr (is.0, is.1, is.2, unused-of G b _ closed.handles closed.shape closed.disk closed.trail.items all.seen.stops all.seen.marks ended.ends.marked back.disk not.same_disk is.3)) not.why;
  }
