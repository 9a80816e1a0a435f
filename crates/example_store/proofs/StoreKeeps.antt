-- What the store keeps, from what is said of its run.
use Rattle.std.proofs.Common.{◌≡◌, ◌≢◌, ◌⊎◌, inl, inr, ⊎_elim, ℕ, suc, ◌+◌, ◌%◌, ◌<◌, ◌≤◌, All, List, [], ◌∷◌, length, slice_get, get_or, take, drop, refl, sym, ap, subst, ◌∙◌, arith, append-nil, length-append, sum_by, eq-eqb, zero-add}
use Rattle.std.proofs.Math.ListN.{length-map}
use Rattle.std.proofs.lemmas.List.{get_or-take, length-take-le, take-append-drop, take-take}
use Rattle.std.proofs.lemmas.List.Elements.{All-take}
use Rattle.std.proofs.lemmas.List.Sums.{sum_by-cons}
use Rattle.jb_disk.specs.Image.{Image, block}
use Rattle.jb_format.specs.Ready.{revoking}
use Rattle.jb_super.specs.Superblock.{Superblock}
use Rattle.jb_recover.specs.Outcomes.{recovered}
use Rattle.jb_recover.proofs.RecoveredImage.{own-clean}
use Rattle.jb_handle.proofs.Tickets.{tickets-first}
use Rattle.jb_deck.specs.Calls.{IsRecoveredTo}
use Rattle.jb_deck.specs.Open.{FollowsEntry, home_by, recovered_home}
use Rattle.jb_deck.proofs.Lives.{opening-recovered}
use Rattle.jb_book.proofs.ShownTickets.{same-out}
use Rattle.jb_book.specs.Since.{HasFirst, Since}
use Rattle.jb_journal.specs.Client.{AreHonest, one_block}
use Rattle.jb_journal.specs.Names.{AreAllStops, Begun, Ghosts, IsFirstPart, IsInHistory, StandsIn, Stopped, TicketsFrom, WordMap, joined, with_places}
use Rattle.jb_journal.specs.Notes.{IsInNotes, Known, KnownLasts, Stop}
use Rattle.jb_journal.specs.Run.{RanOn}
use Rattle.jb_journal.specs.Start.{started_on}
use Rattle.jb_journal.specs.declared.ran.Ran.{Ran}
use Rattle.jb_journal.proofs.ClientNotes.{noted-stays}
use Rattle.jb_journal.proofs.KnownStays.{lasts-at}
use Rattle.example_store.specs.Commands.{HasKey, after_commands, changes_among}
use Rattle.example_store.specs.Handles.{AreAll, IsAlone, LeavesMap, RiseFrom, as_stopped}
use Rattle.example_store.specs.Keeps.{Keeps, SaysFirst, begun_changes, replied_changes}
use Rattle.example_store.specs.Maps.{Mapping, map_of, map_on}
use Rattle.example_store.specs.Serves.{Serves}
use Rattle.example_store.specs.Tables.{value_at}
use Rattle.example_store.specs.declared.command.Command.{Command}
use Rattle.example_store.specs.declared.served.Served.{Served}
use Rattle.example_store.proofs.CommandLemmas.{take-changes}
use Rattle.example_store.proofs.HandleLemmas.{few-given, in-history, rise-room, rise-tickets, stopped_as, ticket-is, within-log}

-- ---- the history of a run is its one client's

ones : (n : ℕ) (log : List WordMap) → sum_by (λ (s : Stop). 1) (with_places n log) ≡ length log
ones n [] = refl
ones n (w ∷ log) = omega (arith, sum_by-cons (λ (s : Stop). 1) (n, w) (with_places (suc n) log), ones (suc n) log)

count : (stops : List Stop) → sum_by (λ (s : Stop). 1) stops ≡ length stops
count [] = refl
count (s ∷ stops) = omega (arith, sum_by-cons (λ (s : Stop). 1) s stops, count stops)

module _ (log : List WordMap) (known : Known) (stops : List Stop) (begins : IsFirstPart known.log log) (stand : All (StandsIn known.log) stops) (rise : RiseFrom 0 stops) (are : AreAllStops log stops) where
  as-many : length log ≡ length stops
  as-many = sym (ones 0 log) ∙ sym (are.once (λ (s : Stop). 1)) ∙ count stops

  -- its client knows all of it, and has stopped all
  pub all-known : AreAll known stops
  all-known =
      let long : length known.log + length begins.0 ≡ length log = sym (length-append known.log begins.0) ∙ ap length begins.1 in
      let inside = within-log known.log stops stand in
      let room = rise-room 0 (length known.log) stops rise inside (omega arith) in
      let number = as-many in
      record {
        tickets = rise-tickets 0 (length known.log) stops rise inside (omega (arith, long, number));
        number = omega (arith, long, number, room);
      }

-- ---- what an image says that was recovered to the first handles

module _ (own : Superblock) (next size count : ℕ) (first : ℕ → List ℕ) (handles : List Stopped) (c : Image) (is : IsRecoveredTo own next size count first handles c) (m : Mapping) (leaves : LeavesMap first m handles) where
  pub recovered-says : (key : ℕ) → key ≢ 0 → map_on size count c key ≡ m key
  recovered-says key some =
      ap (λ r. value_at (home_by r (recovered size count c) (key % 32)) key) is.taken
      ∙ leaves key some (block (recovered size count c) (is.sb.maxlen + key % 32)) (is.each (key % 32))

  -- once more
  pub again-says : (key : ℕ) → key ≢ 0 → map_on size count (recovered size count c) key ≡ m key
  again-says key some =
      let r : Image = recovered size count c in
      let still : recovered size count r ≡ r = own-clean size count is.after.sb r is.after.taken (eq-eqb is.after.sb.start 0 is.after.clean) in
      let maxlen : is.after.sb.maxlen ≡ is.sb.maxlen = ap (λ (x : Superblock). x.maxlen) is.after.same ∙ sym (ap (λ (x : Superblock). x.maxlen) is.same) in
      ap (λ f. value_at (home_by f (recovered size count r) (key % 32)) key) is.after.taken
      ∙ ap (λ (x : Image × ℕ). value_at (block x.0 (x.1 + key % 32)) key) (λ i. (still i, maxlen i))
      ∙ leaves key some (block r (is.sb.maxlen + key % 32)) (is.each (key % 32))

-- homes say what they hold, where no handle came
pub start-leaves : (homes : ℕ → List ℕ) → LeavesMap homes (map_of homes) []
start-leaves homes key some found stands = ap (λ text. value_at text key) stands

-- what a crash leaves while the journal is opened
pub opening-says : (size count : ℕ) (base c : Image) (changes : List Command) → FollowsEntry size count base c → SaysFirst size count (map_on size count base) changes 0 c
opening-says size count base c changes entry = ⊎_elim
    (λ is. of entry.sb (entry.sb.sequence + 1) is)
    (λ is. of (revoking entry.sb) (entry.sb.sequence + 1) is)
    (opening-recovered size count base c entry)
  where
    of : (own : Superblock) (next : ℕ) → IsRecoveredTo own next size count (recovered_home size count base) [] c → SaysFirst size count (map_on size count base) changes 0 c
    of own next is = record {
      many = 0;
      from = omega arith;
      to = omega arith;
      says = recovered-says own next size count (recovered_home size count base) [] c is (map_on size count base) (start-leaves (recovered_home size count base));
      again = again-says own next size count (recovered_home size count base) [] c is (map_on size count base) (start-leaves (recovered_home size count base));
    }

-- ---- a run of one worker

only-one : {A : Type 0} (xs : List A) → length xs ≡ 1 → (x : A) × (xs ≡ x ∷ [])
only-one [] is = absurd (omega (arith, is))
only-one (x ∷ []) is = (x, refl)
only-one (x ∷ y ∷ xs) is = absurd (omega (arith, is))

module _ {D : Type 0} (G : Ghosts D) (disk : D) (commands : List Command) (ran : Ran Served D) where
  abbrev b : Begun
  b = started_on G disk

  abbrev May : Type 0 → ℕ → ℕ → List Stop → Known → Served → Type 0
  May sure workers at stops known served = Serves commands b sure stops known served.replies.items served.ended

  abbrev On-of : ℕ → Type 0
  On-of workers = RanOn G disk b (λ shape. May) workers ran

  module _ (on : On-of 1) where
    abbrev Lasting : Known → Type 0
    Lasting known = KnownLasts G b on.all.ends.log on.all.ends.since.given on.all.ends.since.bounds ran.disk ran.trail.items known

    module _ (sure : Type 0) (held : G.honest ran.disk → sure) (stops : List Stop) (known : Known) (lasting : Lasting known) (are : AreAllStops on.all.ends.log stops) (served : Served)
        (s : Serves commands b sure stops known served.replies.items served.ended) where
      whole : AreAll known stops
      whole = all-known on.all.ends.log known stops lasting.begins s.stand s.rise are

      alone : G.honest ran.disk → IsAlone b sure known stops
      alone honest = (whole, tt, held honest)

      -- the handles that the journal was given are the client's first
      given-are : on.all.ends.since.given ≡ take (length on.all.ends.since.given) (as_stopped stops)
      given-are =
          let has = on.all.ends.since.has in
          let given = on.all.ends.since.given in
          let log = on.all.ends.log in
          let stood : All (StandsIn log) stops = are.stand in
          let in_log : All (IsInHistory log) given = λ k d lt. (has.stopped k d lt).1 in
          let few = few-given log given has.tickets in_log in
          let number = as-many log known stops lasting.begins s.stand s.rise are in
          let long = length-map stops stopped_as in
          let first : TicketsFrom 0 (take (length given) (as_stopped stops)) =
          tickets-first 0 (take (length given) (as_stopped stops)) (drop (length given) (as_stopped stops)) (subst (TicketsFrom 0) (sym (take-append-drop (length given) (as_stopped stops))) whole.tickets) in
          same-out log 0 given (take (length given) (as_stopped stops)) has.tickets first in_log (All-take (IsInHistory log) (length given) (as_stopped stops) (in-history log stops stood))
          (sym (length-take-le (length given) (as_stopped stops) (omega (arith, few, number, long))))

      given-few : length on.all.ends.since.given ≤ length stops
      given-few =
          let has = on.all.ends.since.has in
          let few = few-given on.all.ends.log on.all.ends.since.given has.tickets (λ k d lt. (has.stopped k d lt).1) in
          let number = as-many on.all.ends.log known stops lasting.begins s.stand s.rise are in
          omega (arith, few, number)

      -- what a crash leaves that has the first groups
      says-first : G.honest ran.disk → All HasKey commands → (least : ℕ) (c : Image) → HasFirst b on.all.ends.since.given on.all.ends.since.bounds least c
          → SaysFirst (G.size disk) (G.count disk) (map_on (G.size disk) (G.count disk) (G.newest disk)) (begun_changes commands served) least c
      says-first honest keys least c has =
          let given = on.all.ends.since.given in
          let few = s.few in
          let to = has.to in
          let low = given-few in
          let many : has.many ≤ length stops = omega (arith, to, low) in
          let first : take has.many given ≡ take has.many (as_stopped stops) = ap (take has.many) given-are ∙ take-take has.many (length given) (as_stopped stops) to in
          let made : take has.many (changes_among commands) ≡ take has.many (begun_changes commands served) = take-changes commands (length served.replies.items + 1) has.many (omega (arith, many, few)) in
          let m : Mapping = after_commands (map_of b.homes) (take has.many (begun_changes commands served)) in
          let leaves : LeavesMap b.homes m (take has.many given) =
          subst (λ (x : List Command × List Stopped). LeavesMap b.homes (after_commands (map_of b.homes) x.0) x.1) (λ i. (made i, sym first i)) (s.leaves (alone honest) keys has.many many) in
          record {
            many = has.many;
            from = has.from;
            to = omega (arith, many, few);
            says = recovered-says b.own (b.own.sequence + 1 + has.groups) b.size b.count b.homes (take has.many given) c has.recovered m leaves;
            again = again-says b.own (b.own.sequence + 1 + has.groups) b.size b.count b.homes (take has.many given) c has.recovered m leaves;
          }

      ever-first : G.honest ran.disk → All HasKey commands → (c : Image) → G.left_since ran.disk (G.moment disk) c
          → G.left_since disk (G.moment disk) c ⊎ SaysFirst (G.size disk) (G.count disk) (map_on (G.size disk) (G.count disk) (G.newest disk)) (begun_changes commands served) 0 c
      ever-first honest keys c left =
          let ends = on.all.ends in
          let since : Since G b ends.since.given ends.since.bounds ends.deck = ends.since.since tt (subst G.honest (sym ends.same_disk) honest) in
          ⊎_elim
          (λ before. ⊎_elim inl (λ entry. inr (opening-says (G.size disk) (G.count disk) (G.newest disk) c (begun_changes commands served) entry)) before)
          (λ has. inr (says-first honest keys 0 c has))
          (since.ever c (subst (λ d. G.left_since d (G.moment disk) c) (sym ends.same_disk) left))

      noted-as : (change : ℕ) → change < length (replied_changes commands served) → (number : ℕ) × IsInNotes known.notes change number
      noted-as change lt =
          let each = s.each in
          let n = length (replied_changes commands served) in
          let stop : Stop = (0, one_block 0 []) in
          let one = s.noted change stop (let long = length-take-le n stops each in omega (arith, lt, long)) in
          let at : (get_or (take n stops) change stop).0 ≡ change = ap (λ (t : Stop). t.0) (get_or-take n stops change stop lt) ∙ (ticket-is 0 stops whole.tickets change stop (omega (arith, lt, each)) ∙ zero-add change) in
          (one.0, subst (λ ticket. IsInNotes known.notes ticket one.0) at one.1)

      pub kept : ran.answers.items ≡ served ∷ [] → on.all.known ≡ known ∷ [] → Keeps G disk commands ran
      kept answered knew = record {
        on = on;
        served = served;
        answered = answered;
        within = s.within;
        whole = s.whole;
        told = λ honest keys. s.told (alone honest) keys;
        knew = known;
        known = knew;
        noted = noted-as;
        stays = λ honest keys change number lt n c left. says-first honest keys (suc change) c
            ((noted-stays G b on.all.ends.since.given on.all.ends.since.bounds ran.disk ran.trail.items known.notes change number n lasting.last tt honest).leaves c left);
        ever = ever-first;
      }

    pub keeps : Keeps G disk commands ran
    keeps =
        let all = on.all in
        let served = only-one ran.answers.items all.answers.number in
        let stops = only-one all.stopped all.answers.same in
        let knew = only-one all.known all.answers.knew in
        let sure = AreHonest G (get_or all.seen 0 []) in
        let s : Serves commands b sure (get_or all.stopped 0 stops.0) (get_or all.known 0 knew.0) (get_or ran.answers.items 0 served.0).replies.items (get_or ran.answers.items 0 served.0).ended
        = all.answers.each 0 stops.0 knew.0 [] served.0 (omega arith) in
        let joined_as : joined all.stopped ≡ stops.0 = ap joined stops.1 ∙ append-nil stops.0 in
        kept sure (λ honest. all.honest honest 0 [] (let saw = all.answers.saw in omega (arith, saw))) stops.0 knew.0
        (lasts-at G b May 1 on.shape ran all 0 knew.0 (ap (λ l. slice_get l 0) knew.1))
        (subst (AreAllStops all.ends.log) joined_as all.ends.stopped) served.0
        (subst (λ (x : (List (List Stop) × List Known) × List Served). Serves commands b sure (get_or x.0.0 0 stops.0) (get_or x.0.1 0 knew.0) (get_or x.1 0 served.0).replies.items (get_or x.1 0 served.0).ended)
        (λ i. ((stops.1 i, knew.1 i), served.1 i)) s)
        served.1 knew.1

  -- the same of a run with as many workers
  pub keeps-by : (workers : ℕ) → workers ≡ 1 → On-of workers → Keeps G disk commands ran
  keeps-by workers one on = keeps (subst On-of one on)
