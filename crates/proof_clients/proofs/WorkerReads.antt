-- What one worker has written stays, and is what the other one has read.
use Rattle.std.proofs.Common.{◌≡◌, ℕ, suc, ◌<◌, List, [], ◌∷◌, ◌++◌, All, Some, slice_get, get_or, length, Result, Ok, Err, IfOk, refl, sym, ap, subst, ◌∙◌, arith, sum_by}
use Rattle.std.specs.FinMap as map
use Rattle.std.specs.Cmp.{nat_cmp_total}
use Rattle.std.proofs.lemmas.List.Elements.{All-weaker}
use Rattle.std.proofs.lemmas.List.Sums.{sum_by-cons}
use Rattle.std.proofs.lemmas.Option.{get_or_from_slice_get, same_Some, slice_get-get_or, slice_get_within}
use Rattle.jb_journal.specs.Client.{AreHonest, one_block}
use Rattle.jb_journal.specs.Names.{AreAllStops, Begun, Copy, Ghosts, IsFirstPart, IsInHistory, StandsBy, StandsIn, Stopped, TicketsFrom, WordMap, joined, with_places, word}
use Rattle.jb_journal.specs.Notes.{Known, Stop}
use Rattle.jb_journal.specs.Run.{RanOn}
use Rattle.jb_journal.specs.Start.{started_on}
use Rattle.jb_journal.specs.declared.ran.Ran.{Ran}
use Rattle.jb_journal.proofs.ClientNotes.{stands-on}
use Rattle.jb_journal.proofs.KnownStays.{lasts-at, stays-noted}
use Rattle.proof_clients.specs.TwoWorkers.{HasFound, HasReadThen, HasWritten, TwoHaveWorked, home}
use Rattle.proof_clients.specs.declared.telling.Found.{Found}
use Rattle.proof_clients.specs.declared.telling.Found.TheVariants.{Wrote, Read}

-- ---- a history of one handle

-- each entry counts once
pub ones : (n : ℕ) (log : List WordMap) → sum_by (λ (s : Stop). 1) (with_places n log) ≡ length log
ones n [] = refl
ones n (w ∷ log) = omega (arith, sum_by-cons (λ (s : Stop). 1) (n, w) (with_places (suc n) log), ones (suc n) log)

single : (log : List WordMap) (stop : Stop) → length log ≡ 1 → StandsIn log stop → (stop.0 ≡ 0) × (log ≡ stop.1 ∷ [])
single [] stop one at = absurd (omega (arith, one))
single (w ∷ []) stop one at =
    let first : stop.0 ≡ 0 = omega (arith, slice_get_within (w ∷ []) stop.0 stop.1 at) in
    (first, ap (λ (x : WordMap). x ∷ []) (same_Some w stop.1 (subst (λ n. slice_get (w ∷ []) n ≡ Some stop.1) first at)))
single (w ∷ v ∷ log) stop one at = absurd (omega (arith, one))

-- the history of a run in which one handle stopped
one-stop : (log : List WordMap) (stop : Stop) → AreAllStops log (stop ∷ []) → (stop.0 ≡ 0) × (log ≡ stop.1 ∷ [])
one-stop log stop are = single log stop (sym (ones 0 log) ∙ sym (are.once (λ (s : Stop). 1))) (are.stand 0 stop (omega arith))

-- what handles of such a history leave in the home, where there are any
one-given : (words : WordMap) (given : List Stopped) → TicketsFrom 0 given → All (IsInHistory (words ∷ [])) given → (told : ℕ) → told < length given → (told ≡ 0) × (word given home ≡ map.get words home)
one-given words [] tickets are told lt = absurd (omega (arith, lt))
one-given words (h ∷ []) tickets are told lt =
    let first : h.ticket ≡ 0 = tickets.0 in
    let at : slice_get (words ∷ []) 0 ≡ Some h.words = subst (λ n. slice_get (words ∷ []) n ≡ Some h.words) first (are 0 h (omega arith)) in
    (omega (arith, lt), ap (λ w. map.get w home) (sym (same_Some words h.words at)))
one-given words (h ∷ i ∷ given) tickets are told lt = absurd (omega (arith, tickets.1.0, slice_get_within (words ∷ []) i.ticket i.words (are 1 i (omega arith))))

-- the word of a handle that wrote these bytes to the home
own-word : (bytes : List ℕ) → map.get (one_block home bytes) home ≡ Some (Copy bytes)
own-word bytes = map.get-insert nat_cmp_total map.empty home (Copy bytes) home

pub two-of : {A : Type 0} (xs : List A) (d : A) → length xs ≡ 2 → xs ≡ get_or xs 0 d ∷ get_or xs 1 d ∷ []
two-of [] d is = absurd (omega (arith, is))
two-of (x ∷ []) d is = absurd (omega (arith, is))
two-of (x ∷ y ∷ []) d is = refl
two-of (x ∷ y ∷ z ∷ xs) d is = absurd (omega (arith, is))

-- ---- the run

module _ {D : Type 0} (G : Ghosts D) (bytes : List ℕ) (disk : D) (ran : Ran Found D) where
  abbrev b : Begun
  b = started_on G disk

  abbrev may : Type 0 → ℕ → ℕ → List Stop → Known → Found → Type 0
  may sure workers at stops known found = HasFound bytes b sure stops known found

  abbrev On-of : Type 0
  On-of = RanOn G disk b (λ shape. may) 2 ran

  abbrev nothing : Known
  nothing = record { log = []; notes = [] }

  module _ (on : On-of) where
    -- what one of the workers has found, of its stops and of what it knew and had seen
    found-at : (at : ℕ) (found : Found) → at < 2 → slice_get ran.answers.items at ≡ Some found
        → HasFound bytes b (AreHonest G (get_or on.all.seen at [])) (get_or on.all.stopped at []) (get_or on.all.known at nothing) found
    found-at at found lt is =
        subst (HasFound bytes b (AreHonest G (get_or on.all.seen at [])) (get_or on.all.stopped at []) (get_or on.all.known at nothing))
        (get_or_from_slice_get ran.answers.items at found found is) (on.all.answers.each at [] nothing [] found lt)

    pub told : TwoHaveWorked G bytes disk ran
    told =
        let all = on.all in
        let stops0 = get_or all.stopped 0 [] in
        let known0 = get_or all.known 0 nothing in
        let known1 = get_or all.known 1 nothing in
        let at0 = slice_get-get_or all.stopped 0 [] (omega (arith, all.answers.same)) in
        let knew0 = slice_get-get_or all.known 0 nothing (omega (arith, all.answers.knew)) in
        let knew1 = slice_get-get_or all.known 1 nothing (omega (arith, all.answers.knew)) in
        record {
          on = on;
          wrote = λ ticket is. (
              let w : HasWritten bytes stops0 known0 ticket = found-at 0 (Wrote ticket) (omega arith) is in
              (known0, knew0, stays-noted G b may 2 on.shape ran all 0 0 stops0 known0 at0 knew0 0 (ticket, one_block home bytes) (ap (λ l. slice_get l 0) w.stopped) w.number w.noted));
          read = λ ticket heard found is isnt held. (
              let w : HasWritten bytes stops0 known0 ticket = found-at 0 (Wrote ticket) (omega arith) is in
              let r : HasReadThen b (AreHonest G (get_or all.seen 1 [])) (get_or all.stopped 1 []) known1 heard found = found-at 1 (Read heard found) (omega arith) isnt in
              let whole : joined all.stopped ≡ (ticket, one_block home bytes) ∷ [] =
              ap joined (two-of all.stopped [] all.answers.same) ∙ ap (λ (x : List Stop × List Stop). x.0 ++ (x.1 ++ [])) (λ i. (w.stopped i, r.stopped i)) in
              let one = one-stop all.ends.log (ticket, one_block home bytes) (subst (AreAllStops all.ends.log) whole all.ends.stopped) in
              let begins : IsFirstPart known1.log all.ends.log = (lasts-at G b may 2 on.shape ran all 1 known1 knew1).begins in
              let are : All (IsInHistory (one_block home bytes ∷ [])) r.reads.given =
              All-weaker (IsInHistory known1.log) (IsInHistory (one_block home bytes ∷ [])) (λ s at. subst (λ l. StandsIn l (s.ticket, s.words)) one.1 (stands-on known1.log all.ends.log begins (s.ticket, s.words) at)) r.reads.given r.reads.are in
              let given = one-given (one_block home bytes) r.reads.given r.reads.tickets are heard (r.reads.sees heard r.number r.noted) in
              let sure = all.honest held 1 [] (omega (arith, all.answers.saw)) in
              (given.0 ∙ sym one.0, subst (λ o. StandsBy o (b.homes home) found) (given.1 ∙ own-word bytes) (r.reads.stands tt sure)));
        }

-- whatever the run answers, of as many workers
pub told-of : {D E : Type 0} (G : Ghosts D) (disk : D) (bytes written : List ℕ) (workers : ℕ) → written ≡ bytes → workers ≡ 2
    → (r : Result (Ran Found D) E) → IfOk r (RanOn G disk (started_on G disk) (λ shape sure workers at stops known found. HasFound written (started_on G disk) sure stops known found) workers)
    → IfOk r (TwoHaveWorked G bytes disk)
told-of G disk bytes written workers same two (Ok ran) on =
    subst (λ text. TwoHaveWorked G text disk ran) same
    (told G written disk ran
    (subst (λ n. RanOn G disk (started_on G disk) (λ shape sure workers at stops known found. HasFound written (started_on G disk) sure stops known found) n ran) two on))
told-of G disk bytes written workers same two (Err fault) on = tt
