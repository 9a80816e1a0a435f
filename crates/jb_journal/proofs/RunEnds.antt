-- What a run tells of its end.
use Rattle.std.proofs.Common.{◌≡◌, ℕ, ◌≤◌, All, List, [], ◌∷◌, map, Option, Some, sym, ap, subst, ◌∙◌, arith}
use Rattle.std.proofs.lemmas.List.Elements.{All-map, All-weaker}
use Rattle.jb_cost.specs.Pieces.{joined}
use Rattle.jb_disk.specs.declared.disk.Disk.{Ghosts}
use Rattle.jb_handle.specs.Word.{WordMap}
use Rattle.jb_handle.specs.declared.shape.Shape.{Shape}
use Rattle.jb_deck.specs.Done.{Follow, past_after, start_of}
use Rattle.jb_deck.specs.declared.done.Entry.{Entry}
use Rattle.jb_book.proofs.TrailEntries.{follow-past}
use Rattle.jb_book.specs.History.{AreAllStops, CameAbout, EndsWith, IsStop}
use Rattle.jb_book.specs.SinceMark.{EndsMarked, EndsSeen, Lasts}
use Rattle.jb_book.proofs.SinceNoHandles.{is-weaker}
use Rattle.jb_board.specs.HistoryRule.{IsFirstPart}
use Rattle.std.proofs.lemmas.Option.{slice_get_within}
use Rattle.jb_deck.specs.Deck.{OpenDeck}
use Rattle.jb_handle.specs.declared.stopped.Stopped.{Stopped}
use Rattle.jb_journal.specs.RunFaults.{IsUnused}
use Rattle.jb_book.specs.AtHome.{AreHome, EndsUsing, log_used}
use Rattle.jb_book.specs.Origin.{Begun}
use Rattle.jb_book.specs.Marks.{SeesMore}
use Rattle.jb_book.specs.declared.sights.Sights.{Sights}
use Rattle.jb_journal.specs.Client.{AreHonest, known_in}
use Rattle.jb_journal.specs.Notes.{KnownLasts}
use Rattle.jb_journal.proofs.ClientNotes.{first-trans, known-lasts, were-honest}

-- where a trail ends
ends-at : (past : ℕ) (trail : List Entry) → Follow (start_of trail) 0 past trail → past_after 0 trail ≡ past
ends-at past [] follows = follows
ends-at past (e ∷ es) follows = follow-past e.first 0 past (e ∷ es) follows

-- the settled handles go up to there
pub settled-as : (settled handles : ℕ) (trail : List Entry) → settled ≡ past_after 0 trail → (past : ℕ) × Follow (start_of trail) 0 past trail × (past ≤ handles) → Follow (start_of trail) 0 settled trail × (settled ≤ handles)
settled-as settled handles trail is (past, follows, within) =
    let same : past ≡ settled = sym (ends-at past trail follows) ∙ sym is in
    (subst (λ p. Follow (start_of trail) 0 p trail) same follows, omega (arith, same, within))

-- ---- what was seen by each worker, of a journal that ends with all that they have seen

module _ {D : Type 0} (G : Ghosts D) (b : Begun) (log : List WordMap) (given : List Stopped) (bounds : List ℕ) (deck : OpenDeck D) (disk : D) (trail : List Entry) (same_disk : deck.disk ≡ disk) (same_trail : deck.trail ≡ trail)
    {H X : Type 0} (sights : X → Sights D H) (ws : List X) (seen : Sights D H) (knows : IsFirstPart seen.stops log) (last : All (Lasts G b given bounds deck) seen.marks) (each : All (λ w. SeesMore (sights w) seen) ws) where
  -- what each knew lasts
  pub all-known : All (KnownLasts G b log given bounds disk trail) (map (λ w. known_in G.moment (sights w)) ws)
  all-known = All-map (KnownLasts G b log given bounds disk trail) (λ w. known_in G.moment (sights w)) ws
      (All-weaker (λ w. SeesMore (sights w) seen) (λ w. KnownLasts G b log given bounds disk trail (known_in G.moment (sights w)))
      (λ w more. known-lasts G b given bounds log (sights w).stops deck disk trail (sights w).marks seen.marks same_disk same_trail (first-trans (sights w).stops seen.stops log more.0 knows) more.1 last) ws each)

  -- a disk that is honest was so at all that each had seen
  pub all-honest : G.honest disk → All (AreHonest G) (map (λ w. (sights w).marks) ws)
  all-honest held = All-map (AreHonest G) (λ w. (sights w).marks) ws
      (All-weaker (λ w. SeesMore (sights w) seen) (λ w. AreHonest G (sights w).marks) (λ w more. were-honest G b given bounds deck disk (sights w).marks seen.marks same_disk more.1 last held) ws each)

-- ---- how a desk ends, without the seats that have stopped no handle

module _ {D : Type 0} (G : Ghosts D) (b : Begun)
    (all stopped : List (List (ℕ × WordMap))) (handles : ℕ) (shape : Shape) (disk : D) (trail : List Entry) (is : joined all ≡ joined stopped) where
  abbrev Ends : List (List (ℕ × WordMap)) → Type 0
  Ends stops = EndsWith G b stops handles shape disk trail

  abbrev ends-without : Ends all → Ends stopped
  ends-without ends = record {
    log = ends.log;
    number = ends.number;
    stopped = subst (AreAllStops ends.log) is ends.stopped;
    deck = ends.deck;
    same_disk = ends.same_disk;
    same_shape = ends.same_shape;
    same_trail = ends.same_trail;
    since = ends.since;
    journal = ends.journal;
  }

  -- how its stops came about
  pub came-without : CameAbout G b all shape disk trail → CameAbout G b stopped shape disk trail
  came-without came = record {
    log = came.log;
    stopped = subst (AreAllStops came.log) is came.stopped;
    run_shape = came.run_shape;
    run = came.run;
    runs_as = came.runs_as;
  }

  -- and what each worker knew lasts; a disk that is honest was so at all that each had seen; and so much of the log is in use
  pub ends-known : {H X : Type 0} (sights : X → Sights D H) (ws : List X) (seen : Sights D H) (in_log : Option ℕ)
      → EndsUsing G b all handles shape disk trail seen.stops seen.marks in_log → All (λ w. SeesMore (sights w) seen) ws
      → (ends : Ends stopped) × All (KnownLasts G b ends.log ends.since.given ends.since.bounds disk trail) (map (λ w. known_in G.moment (sights w)) ws) × (G.honest disk → All (AreHonest G) (map (λ w. (sights w).marks) ws))
      × (in_log ≡ log_used ends.deck) × (in_log ≡ Some 0 → b.is_known → G.honest disk → AreHome G b ends.since.given disk)
  ends-known sights ws seen in_log using each = let ends = using.marked in (
    ends-without ends.ends,
    all-known G b ends.ends.log ends.ends.since.given ends.ends.since.bounds ends.ends.deck disk trail ends.ends.same_disk ends.ends.same_trail sights ws seen ends.knows ends.last each,
    all-honest G b ends.ends.log ends.ends.since.given ends.ends.since.bounds ends.ends.deck disk trail ends.ends.same_disk ends.ends.same_trail sights ws seen ends.knows ends.last each,
    using.used,
    using.home,
  )

-- ---- a desk that is closed ends as one does whose seats are not asked

module _ {D : Type 0} (G : Ghosts D) (b : Begun) (stops : List (List (ℕ × WordMap))) (handles : ℕ) (shape : Shape) (disk : D) (trail : List Entry) (seen : List WordMap) (marks : List (OpenDeck D))
    (marked : EndsMarked G b stops handles shape disk trail seen marks) (told : D) (same : told ≡ disk) where
  pub seen-of : EndsSeen G b told seen marks
  seen-of = record {
    log = marked.ends.log;
    knows = marked.knows;
    deck = marked.ends.deck;
    same_disk = marked.ends.same_disk ∙ sym same;
    since = marked.ends.since;
    last = marked.last;
  }

  -- where no handle stopped its journal was given none
  pub unused-of : handles ≡ 0 → IsUnused G b told
  unused-of none = record {
    deck = marked.ends.deck;
    same_disk = marked.ends.same_disk ∙ sym same;
    none = is-weaker G b (IsStop b marked.ends.log) (λ h. ⊥) (λ h stop. absurd (
        let inside = slice_get_within marked.ends.log h.ticket h.words stop.1 in
        let number = marked.ends.number in
        let never : ⊥ = omega (arith, inside, number, none) in never)) marked.ends.deck marked.ends.since;
  }

-- ---- a desk whose seats are not asked

module _ {D : Type 0} (G : Ghosts D) (b : Begun) (disk told : D) (seen stops : List WordMap) (marks all : List (OpenDeck D)) where
  -- what is told of its disk, where this was seen of it
  pub seen-on : stops ≡ seen → all ≡ marks → told ≡ disk → EndsSeen G b disk stops all → EndsSeen G b told seen marks
  seen-on same_stops same_marks same ends = subst (λ (x : (D × List WordMap) × List (OpenDeck D)). EndsSeen G b x.0.0 x.0.1 x.1) (λ i. ((sym same i, same_stops i), same_marks i)) ends
