-- A journal since its desk was started: what a batch that is given to it keeps.
use Rattle.std.proofs.Common.{◌≡◌, ℕ, ◌+◌, ◌≤◌, List, Some, slice_get, ◌++◌, All, length, take, sym, ap, ◌∙◌, arith, false, ◌<◌, slice_index, Result, Ok, Err, OnOk, refl, subst, length-append, length-take-le, take_all}
use Rattle.std.proofs.lemmas.List.Elements.{All-append}
use Rattle.jb_plan.specs.Costs.{cost_in}
use Rattle.jb_cost.specs.Cut.{IsCut}
use Rattle.jb_handle.specs.declared.shape.Shape.{Shape}
use Rattle.jb_handle.specs.declared.stopped.Stopped.{Stopped}
use Rattle.jb_deck.specs.GroupsOfBatch.{entries_for, groups_in}
use Rattle.jb_deck.specs.declared.done.Entry.{Entry}
use Rattle.jb_book.specs.Since.{AreGroups, IsCosted, NumberedFrom, HasFirst, Since, WasGiven}
use Rattle.jb_plan.specs.Prepare.{Planned, IsPlanned}
use Rattle.jb_block.specs.declared.stamp.Stamp.{Stamp}
use Rattle.jb_disk.specs.Image.{Image}
use Rattle.jb_disk.specs.Faults.{CountsAny}
use Rattle.jb_disk.specs.KeptOn.{KeptOn}
use Rattle.jb_disk.specs.declared.disk.Disk.{Ghosts}
use Rattle.jb_disk.specs.Time.{LeavesOnly}
use Rattle.jb_disk.proofs.CallRuns.{weaken}
use Rattle.jb_handle.specs.Tickets.{TicketsFrom}
use Rattle.jb_handle.proofs.Tickets.{tickets-append}
use Rattle.jb_deck.specs.Calls.{IsCall}
use Rattle.jb_deck.specs.CommitBatch.{AnswersBatch, CommitsBatch, CommitsOnDisk, FindsLive, LeavesGroups, RefusesBatch, SettlesSome, TakesBatch}
use Rattle.jb_deck.specs.Conduct.{HasCalled, commit_batch}
use Rattle.jb_deck.specs.Deck.{OpenDeck, stood_on}
use Rattle.jb_deck.specs.Done.{entries_of, past_after, start_of}
use Rattle.jb_deck.specs.GroupByGroup.{FollowsSome}
use Rattle.jb_deck.specs.declared.batched.BatchFault.{BatchFault}
use Rattle.jb_deck.specs.declared.done.Done.{Done}
use Rattle.jb_super.specs.Journal.{SameJournal}
use Rattle.jb_log.proofs.OwnSuperblock.{same-then}
use Rattle.jb_deck.specs.Since.{LiveOf, committed, deck_homes}
use Rattle.jb_deck.proofs.Conduct.{asked-on}
use Rattle.jb_deck.proofs.EndedMakes.{ended-is-call}
use Rattle.jb_deck.proofs.HomesStand.{call-stood}
use Rattle.jb_book.specs.Journal.{EndsRound, RefusesRound}
use Rattle.jb_book.specs.Origin.{Begun}
use Rattle.jb_book.specs.SinceMark.{IsMarkedOf}
use Rattle.jb_book.proofs.CostedEntries.{costed-more}
use Rattle.jb_book.proofs.CommitEntries.{cut-last, cut-within, for-length, for-past, past-append}
use Rattle.jb_book.proofs.GroupBounds.{cut-more, further, get-more, groups-more, place-last}
use Rattle.jb_book.proofs.MarksLast.{ever-on, kept-all, first-longer, first-some}
use Rattle.jb_book.proofs.SinceTakeTrail.{numbered-first, numbered-for, numbered-on, start-more}
use Rattle.jb_book.proofs.SinceNoHandles.{more-counted, plain-is}
use Rattle.jb_deck.specs.declared.batched.BatchFault.TheVariants as batch

-- ---- A journal since its desk was started: what a batch that is given to it keeps

module _ {D : Type 0} (G : Ghosts D) (b : Begun) (known : Stopped → Type 0) (p : Planned) (stamp : Stamp) (old new : OpenDeck D) (planned : IsPlanned p) (tickets : TicketsFrom p.batch.first p.batch.handles) (stopped : All known p.batch.handles) (kept : KeptOn G CountsAny old.disk new.disk) where
  abbrev hs : List Stopped
  hs = p.batch.handles

  -- the bounds of the groups that a journal was given, and then of the batch's
  abbrev pub bounds_to : List Stopped → List ℕ → List ℕ
  bounds_to given bounds = bounds ++ further (length given) p.groups

  abbrev cut : IsCut (length hs) p.groups
  cut = planned.least.fitting.cut

  abbrev Left : ℕ → ℕ → Image → Type 0
  Left least most c = FollowsSome (stood_on G old) hs p.groups least most c

  -- the entries of its groups, for a batch that begins at this ticket
  abbrev entries : ℕ → List Entry
  entries ticket = entries_for (cost_in p.batch.shape hs) ticket old.log.next p.groups

  -- so many groups of the batch are settled, by these entries: all, or the journal has failed
  record Settles (k : ℕ) (es : List Entry) : Type 0 where
    within : k ≤ groups_in p.groups
    told : es ≡ take k (entries p.batch.first)
    trail : new.trail ≡ old.trail ++ es
    next : new.log.next ≡ old.log.next + k
    moved : SameJournal old.log.sb new.log.sb
    shape : new.shape ≡ old.shape
    whole : new.aborted ≡ false → k ≡ groups_in p.groups
    no_fewer : G.faults old.disk ≤ G.faults new.disk

  all-settled : (done : Done) → G.faults new.disk ≡ G.faults old.disk → CommitsBatch p stamp old new done → Settles (groups_in p.groups) (entries_of done)
  all-settled done counted commits =
      let long = for-length (cost_in p.batch.shape hs) p.batch.first old.log.next p.groups in
      let within : groups_in p.groups ≤ groups_in p.groups = omega arith in
      let told : entries_of done ≡ take (groups_in p.groups) (entries p.batch.first) = commits.entries ∙ sym (take_all (groups_in p.groups) (entries p.batch.first) (omega (arith, long))) in
      let no_fewer : G.faults old.disk ≤ G.faults new.disk = omega arith in
      assumption

  some-settled : (settled : Done) → G.faults old.disk ≤ G.faults new.disk → (some : SettlesSome p stamp old new settled) → Settles some.groups (entries_of settled)
  some-settled settled more some =
      let within : some.groups ≤ groups_in p.groups = omega arith in
      let whole : new.aborted ≡ false → some.groups ≡ groups_in p.groups = λ on. cc (some.aborted, on) in
      assumption

  abbrev Leaves : Type 0
  Leaves = old.aborted ≡ false → G.honest new.disk → LeavesOnly G.moment G.left_since old.disk new.disk (Left 0 (groups_in p.groups))

  -- ---- what the batch makes of a journal that was given handles, where so many groups are settled

  module _ (takes : TakesBatch old p) (k : ℕ) (es : List Entry) (st : Settles k es) where
    long : length es ≡ k
    long =
        let all = for-length (cost_in p.batch.shape hs) p.batch.first old.log.next p.groups in
        ap length st.told ∙ length-take-le k (entries p.batch.first) (omega (arith, all))

    module _ (given : List Stopped) (bounds : List ℕ) (has : WasGiven known given bounds old) where
      at : p.batch.first ≡ length given
      at = takes.ticket ∙ sym (has.all takes.up)

      told : es ≡ take k (entries (length given))
      told = st.told ∙ ap (λ n. take k (entries n)) at

      past : past_after 0 new.trail ≡ length given + slice_index p.groups k
      past =
          ap (past_after 0) st.trail ∙ past-append 0 old.trail es ∙ ap (λ n. past_after n es) (sym (has.all takes.up)) ∙ ap (past_after (length given)) told
          ∙ for-past (cost_in p.batch.shape hs) (length hs) (length given) old.log.next k p.groups cut st.within

      given-more : WasGiven known (given ++ hs) (bounds_to given bounds) new
      given-more =
          let all = length-append given hs in
          let last = cut-last (length hs) p.groups cut in
          record {
            stopped = All-append known given hs has.stopped stopped;
            tickets = tickets-append 0 given hs has.tickets (subst (λ n. TicketsFrom n hs) (let same = at in let h : p.batch.first ≡ 0 + length given = omega (arith, same) in h) tickets);
            settled = let ends = past in let few = cut-within (length hs) p.groups k cut st.within in omega (arith, ends, all, few.1);
            all = λ on. (let ends = past in let whole = ap (slice_index p.groups) (st.whole on) in omega (arith, ends, all, whole, last));
            cut = subst (λ n. IsCut n (bounds_to given bounds)) (sym all) (cut-more (length given) (length hs) bounds p.groups has.cut cut);
            groups = subst (λ es. AreGroups new.aborted es (bounds_to given bounds)) (sym st.trail)
                (groups-more old.aborted new.aborted old.trail es bounds p.groups (cost_in p.batch.shape hs) (length given) (length hs) old.log.next k takes.up cut (has.all takes.up) told st.whole has.groups);
            costs = subst (λ (x : Shape × List Entry). All (IsCosted x.0 (given ++ hs)) x.1) (λ i. ((takes.shape ∙ sym st.shape) i, (ap (λ es. old.trail ++ es) (sym told) ∙ sym st.trail) i))
                (costed-more p.batch.shape given hs old.log.next k p.groups old.trail cut (subst (λ (x : Shape). All (IsCosted x given) old.trail) (sym takes.shape) has.costs));
            first = has.first;
            numbers = subst (NumberedFrom has.first) (sym st.trail)
                (numbered-on has.first old.trail es has.numbers (subst (λ (x : ℕ × List Entry). NumberedFrom x.0 x.1) (λ i. (sym has.next i, sym told i))
                (numbered-first old.log.next k (entries (length given)) (numbered-for (cost_in p.batch.shape hs) (length given) old.log.next p.groups))));
            next = let both = length-append old.trail es in let more = ap length st.trail in let size = long in omega (arith, both, more, size, has.next, st.next);
          }

      module _ (s : Since G b given bounds old) (leaves : LeavesOnly G.moment G.left_since old.disk new.disk (Left 0 (groups_in p.groups))) where
        -- all groups of before were settled
        settled-all : slice_get bounds s.groups ≡ Some (length given)
        settled-all = s.settled ∙ ap Some (sym (has.all takes.up))

        has-some : (least most low : ℕ) (x : Image) → most ≤ groups_in p.groups → low ≤ length given + slice_index p.groups least → Left least most x → HasFirst b (given ++ hs) (bounds_to given bounds) low x
        has-some least most low x =
            first-some b old.log.sb s.same (G.size old.disk) (G.count old.disk) s.same_size s.same_count given (deck_homes G.newest old) (s.stood takes.up) bounds s.groups settled-all hs p.groups least most low old.log.next x s.number has.cut cut

        first-leaves : LeavesOnly G.moment G.left_since old.disk new.disk (HasFirst b (given ++ hs) (bounds_to given bounds) (past_after 0 old.trail))
        first-leaves =
            weaken G.moment G.left_since old.disk new.disk (Left 0 (groups_in p.groups)) (HasFirst b (given ++ hs) (bounds_to given bounds) (past_after 0 old.trail))
            (λ x f. has-some 0 (groups_in p.groups) (past_after 0 old.trail) x (omega arith) (omega arith) f) leaves

        -- a trail that begins at the ticket 0 is whole
        began-more : start_of new.trail ≡ 0 → new.log.next ≡ b.own.sequence + 1 + length new.trail
        began-more starts =
            let both = length-append old.trail es in
            let more : length new.trail ≡ length (old.trail ++ es) = ap length st.trail in
            let size = long in
            let before : old.log.next ≡ b.own.sequence + 1 + length old.trail = start-more old.trail es (λ n. old.log.next ≡ b.own.sequence + 1 + n) (λ none. s.began (ap start_of none) ∙ ap (λ es. b.own.sequence + 1 + length es) none) s.began (ap start_of (sym st.trail) ∙ starts) in
            omega (arith, both, more, before, size)

        since-more : (b.faults < 18446744073709551615 → G.faults new.disk ≡ b.faults → new.aborted ≡ false) → (new.aborted ≡ false → IsCall given (deck_homes G.newest old) hs (deck_homes G.newest new) × LiveOf (given ++ hs) new.groups)
            → (most : ℕ) → most ≤ groups_in p.groups → ((x : Image) → G.may_leave new.disk x → Left k most x) → Since G b (given ++ hs) (bounds_to given bounds) new
        since-more fails called most few now = record {
          same_size = kept.same_size ∙ s.same_size;
          same_count = kept.same_count ∙ s.same_count;
          no_fewer = omega arith;
          up = fails;
          same = same-then b.own old.log.sb new.log.sb s.same st.moved;
          groups = s.groups + k;
          settled = let last = place-last (length given) bounds s.groups has.cut settled-all in
              ap (λ n. slice_get (bounds_to given bounds) (n + k)) last ∙ get-more (length given) (length hs) bounds p.groups k has.cut cut st.within ∙ ap Some (sym past);
          number = let more = st.next in let before = s.number in omega (arith, more, before);
          began = began-more;
          stood = λ on. call-stood given hs b.homes (deck_homes G.newest old) (deck_homes G.newest new) (s.stood takes.up) (called on).0;
          live = λ on. (called on).1;
          now = λ x may. has-some k most (past_after 0 new.trail) x few (let ends = past in omega (arith, ends)) (now x may);
          later = omega (arith, leaves.later);
          ever = ever-on G b given (given ++ hs) bounds (bounds_to given bounds) (past_after 0 old.trail) old new (first-longer b given hs bounds (further (length given) p.groups)) s first-leaves;
        }

    more-marked : (ms : List (OpenDeck D)) → HasCalled G old new → (b.faults ≤ G.faults old.disk → b.faults < 18446744073709551615 → G.faults new.disk ≡ b.faults → new.aborted ≡ false)
        → (G.honest new.disk → (given : List Stopped) → LiveOf given old.groups → new.aborted ≡ false → IsCall given (deck_homes G.newest old) hs (deck_homes G.newest new) × LiveOf (given ++ hs) new.groups)
        → (most : ℕ) → most ≤ groups_in p.groups → (G.honest new.disk → (x : Image) → G.may_leave new.disk x → Left k most x) → Leaves → IsMarkedOf G b known ms old → IsMarkedOf G b known ms new
    more-marked ms call fails called most few now leaves is =
        let given = is.since.given in
        let bounds = is.since.bounds in
        let has = is.since.has in
        let before = λ (known_start : b.is_known) (held : G.honest new.disk). is.since.since known_start (kept.was_honest held) in
        let ends = past given bounds has in
        record {
          since = record {
            given = given ++ hs;
            bounds = bounds_to given bounds;
            has = given-more given bounds has;
            asked = asked-on G call is.since.asked;
            since = λ known_start held. (let s = before known_start held in since-more given bounds has s (leaves takes.up held) (fails s.no_fewer) (called held given (s.live takes.up)) most few (now held));
          };
          marks_last = kept-all G b given (given ++ hs) bounds (bounds_to given bounds) old new st.shape kept.was_honest (omega (arith, ends)) (first-longer b given hs bounds (further (length given) p.groups)) (λ known_start held. first-leaves given bounds has (before known_start held) (leaves takes.up held)) ms is.marks_last;
        }

  -- ---- whatever the commit answered

  abbrev Now : Result Done BatchFault → Type 0
  Now r = old.aborted ≡ false → G.honest new.disk → (c : Image) → G.may_leave new.disk c → LeavesGroups (stood_on G old) p r c

  pub commit-marked : (ms : List (OpenDeck D)) (r : Result Done BatchFault) → AnswersBatch (G.faults old.disk) (G.faults new.disk) p stamp old new r → (G.honest new.disk → OnOk r (CommitsOnDisk G.newest p stamp old new)) → Leaves → Now r → IsMarkedOf G b known ms old → IsMarkedOf G b known ms new
  commit-marked ms (Ok done) answers on_disk leaves now is =
      let commits = answers.2 in
      more-marked answers.0 (groups_in p.groups) (entries_of done) (all-settled done answers.1 commits) ms (commit_batch p stamp (Ok done) kept answers) (λ low few none. commits.up)
      (λ held given live on. ended-is-call G.newest given old hs new live (committed p stamp done new planned commits (on_disk held)))
      (groups_in p.groups) (omega arith) (now answers.0.up) leaves is
  commit-marked ms (Err (batch.Memory back)) answers on_disk leaves now is = subst (IsMarkedOf G b known ms) (sym answers.3) is
  commit-marked ms (Err (batch.DeviceFault settled)) answers on_disk leaves now is =
      let some = answers.2 in
      let st = some-settled settled answers.1.no_fewer some in
      more-marked answers.0 some.groups (entries_of settled) st ms (commit_batch p stamp (Err (batch.DeviceFault settled)) kept answers)
      (λ low few none. absurd (more-counted b.faults (G.faults old.disk) (G.faults new.disk) low answers.1 few none))
      (λ held given live on. cc (some.aborted, on))
      (some.groups + 1) (omega arith) (λ held x may. subst (λ n. Left n (n + 1) x) (long answers.0 some.groups (entries_of settled) st) (now answers.0.up held x may)) leaves is
  commit-marked ms (Err refused) answers on_disk leaves now is = subst (IsMarkedOf G b known ms) (sym answers.1) is

  module _ (plain : (h : Stopped) → known h → b.stops h.words) (ms : List (OpenDeck D)) where
    -- the journal that refuses a batch is as it was
    refuses-round : (fault : BatchFault) → old.aborted ≡ false → RefusesBatch old p fault → IsMarkedOf G b known ms old → RefusesRound G b p fault
    refuses-round fault up refuses is = record { planned = planned; deck = old; since = plain-is G b known plain old is.since; up = up; refuses = refuses }

    pub commit-ends : (r : Result Done BatchFault) → AnswersBatch (G.faults old.disk) (G.faults new.disk) p stamp old new r → (G.honest new.disk → OnOk r (CommitsOnDisk G.newest p stamp old new)) → (G.honest new.disk → OnOk r (FindsLive (G.size old.disk) (G.count old.disk) new.log new.groups (G.newest new.disk))) → Leaves → Now r → IsMarkedOf G b known ms old → EndsRound G b p r
    unfolding commit-marked more-marked
    commit-ends (Ok done) answers on_disk finds leaves now is = record {
      planned = planned;
      stamp = stamp;
      cut = record {
        least = planned.least;
        old = old;
        new = new;
        takes = answers.0;
        first = answers.2.first;
        entries = answers.2.entries;
        trail = answers.2.trail;
        next = answers.2.next;
        up = answers.2.up;
        before = plain-is G b known plain old is.since;
        after = plain-is G b known plain new (commit-marked ms (Ok done) answers on_disk leaves now is).since;
        adds = refl;
      };
      same_disk = kept;
      commits = answers.2;
      on_disk = λ known_start held. on_disk held;
      finds = λ known_start held. finds held;
    }
    commit-ends (Err (batch.Aborted back)) answers on_disk finds leaves now is = record { deck = old; since = plain-is G b known plain old is.since; failed = answers.0.0 }
    commit-ends (Err (batch.WrongTicket back expected)) answers on_disk finds leaves now is = refuses-round (batch.WrongTicket back expected) answers.0.0 answers.0 is
    commit-ends (Err (batch.OtherShape back)) answers on_disk finds leaves now is = refuses-round (batch.OtherShape back) answers.0.0 answers.0 is
    commit-ends (Err (batch.NumbersSpent back)) answers on_disk finds leaves now is = refuses-round (batch.NumbersSpent back) answers.0.0 answers.0 is
    commit-ends (Err (batch.Memory back)) answers on_disk finds leaves now is = tt
    commit-ends (Err (batch.DeviceFault settled)) answers on_disk finds leaves now is = record {
      planned = planned;
      stamp = stamp;
      old = old;
      new = new;
      same_disk = kept;
      takes = answers.0;
      settles = answers.2;
      before = plain-is G b known plain old is.since;
      after = plain-is G b known plain new (commit-marked ms (Err (batch.DeviceFault settled)) answers on_disk leaves now is).since;
      adds = refl;
    }
