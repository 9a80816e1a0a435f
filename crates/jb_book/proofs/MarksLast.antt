-- Marks that last: entries of a trail, marks that are made, and the first ones of a list.
use Rattle.std.proofs.Common.{◌≡◌, ℕ, ◌+◌, ◌≤◌, List, [], ◌++◌, length, take, slice_index, sym, subst, arith, ◌⊎◌, zero, suc, true, ◌<◌, ◌∷◌, All, Some, slice_get, Result, Ok, Err, inl, inr, ⊎_elim, refl, ap, ◌∙◌}
use Rattle.std.proofs.lemmas.List.{length-append, take-append-le, get_or-append-add}
use Rattle.std.proofs.Math.Seq.{take-append-add}
use mathlib.Core.List.{append-nil, IsPrefix}
use Rattle.std.proofs.lemmas.Option.{slice_get-get_or}
use Rattle.jb_book.proofs.GroupBounds.{further, get-more, place-last}
use Rattle.std.proofs.lemmas.List.Elements.{All-push, All-weaker}
use Rattle.jb_cost.specs.Cut.{IsCut}
use Rattle.jb_disk.specs.Image.{Image}
use Rattle.jb_handle.specs.declared.stopped.Stopped.{Stopped}
use Rattle.jb_super.specs.Journal.{SameJournal}
use Rattle.jb_super.specs.Superblock.{Superblock}
use Rattle.jb_log.specs.Follows.{Follows, RecoversWith, OldHeaders}
use Rattle.jb_deck.specs.GroupsOfBatch.{groups_in}
use Rattle.jb_deck.specs.GroupByGroup.{FollowsSome, handles_to}
use Rattle.jb_deck.specs.Calls.{IsRecoveredTo}
use Rattle.jb_deck.proofs.HomesStand.{Stood, stood-recovered}
use Rattle.jb_book.specs.Origin.{Begun}
use Rattle.jb_book.specs.Since.{HasFirst, Since}
use Rattle.jb_plan.specs.Prepare.{Planned}
use Rattle.jb_block.specs.declared.stamp.Stamp.{Stamp}
use Rattle.jb_disk.specs.declared.disk.Disk.{Ghosts}
use Rattle.jb_disk.specs.Time.{LeavesOnly}
use Rattle.jb_board.proofs.EntryPlaces.{all-first, get_before, get_last}
use Rattle.jb_deck.specs.CommitBatch.{AnswersBatch}
use Rattle.jb_deck.specs.Deck.{OpenDeck}
use Rattle.jb_deck.specs.Done.{Follow, entries_of, past_after, start_of}
use Rattle.jb_deck.specs.declared.batched.BatchFault.{BatchFault}
use Rattle.jb_deck.specs.declared.done.Done.{Done}
use Rattle.jb_deck.specs.declared.done.Entry.{Entry}
use Rattle.jb_book.specs.Marks.{HasFailedMark, IsMarked}
use Rattle.jb_book.specs.SinceMark.{HasSettledOf, IsMarkedOf, Lasts, MarksSettled, HaveTickets}
use Rattle.jb_book.proofs.CommitEntries.{cut-rise, cut-within}
use Rattle.jb_book.proofs.TrailEntries.{follow-length}
use Rattle.jb_deck.specs.declared.batched.BatchFault.TheVariants as batch
use Rattle.jb_log.specs.Stood.{stood_of}

-- ---- images with a first part of the handles that a journal was given

module _ (b : Begun) where
  -- the image is recovered to the homes of the start with these handles
  abbrev Recovered : ℕ → List Stopped → Image → Type 0
  Recovered next hs c = IsRecoveredTo b.own next b.size b.count b.homes hs c

  -- with all that were given, and the first ones of those that come after them, which end between two groups
  pub first-more : (given more : List Stopped) (bounds : List ℕ) (groups n least next : ℕ) (c : Image) → slice_get bounds groups ≡ Some (length given + n) → n ≤ length more → least ≤ length given + n → next ≡ b.own.sequence + 1 + groups → Recovered next (given ++ take n more) c
      → HasFirst b (given ++ more) bounds least c
  first-more given more bounds groups n least next c at within low few is = record {
    groups = groups;
    many = length given + n;
    between = at;
    from = low;
    to = let all = length-append given more in omega (arith, all, within);
    recovered = subst (λ hs. Recovered (b.own.sequence + 1 + groups) hs c) (sym (take-append-add given more n)) (subst (λ k. Recovered k (given ++ take n more) c) few is);
  }

  pub first-lower : (given : List Stopped) (bounds : List ℕ) (low least : ℕ) (c : Image) → low ≤ least → HasFirst b given bounds least c → HasFirst b given bounds low c
  first-lower given bounds low least c less is = record { groups = is.groups; many = is.many; between = is.between; from = omega arith; to = is.to; recovered = is.recovered }

  -- a first part of the handles is one of these and further ones
  pub first-longer : (given more : List Stopped) (bounds others : List ℕ) (least : ℕ) (c : Image) → HasFirst b given bounds least c → HasFirst b (given ++ more) (bounds ++ others) least c
  first-longer given more bounds others least c is = record {
    groups = is.groups;
    many = is.many;
    between = get_before bounds others is.groups is.many is.between;
    from = is.from;
    to = let all = length-append given more in omega (arith, all);
    recovered = subst (λ hs. Recovered (b.own.sequence + 1 + is.groups) hs c) (sym (take-append-le is.many given more is.to)) is.recovered;
  }

  -- ---- where the homes stand as the handles say, an image that follows with further ones

  module _ (own : Superblock) (same : SameJournal b.own own) (n m : ℕ) (sized : n ≡ b.size) (counted : m ≡ b.count) (given : List Stopped) (homes : ℕ → List ℕ) (stood : Stood given b.homes homes) where
    recovered-more : (more : List Stopped) (next : ℕ) (c : Image) → Follows own n m homes more c → OldHeaders own next n m c → Recovered next (given ++ more) c
    recovered-more more next c f h =
        let is = stood-recovered b.own own next n m b.homes given homes more c same stood f h in
        subst (λ k. IsRecoveredTo b.own next k b.count b.homes (given ++ more) c) sized (subst (λ k. IsRecoveredTo b.own next n k b.homes (given ++ more) c) counted is)

    -- where all that were given are the first groups, so many
    module _ (bounds : List ℕ) (groups : ℕ) (at : slice_get bounds groups ≡ Some (length given)) where
      pub first-none : (least next : ℕ) (c : Image) → least ≤ length given → next ≡ b.own.sequence + 1 + groups → RecoversWith (stood_of own next n m homes) [] c → HasFirst b given bounds least c
      first-none least next c low few none =
          subst (λ hs. HasFirst b hs bounds least c) (append-nil given)
          (first-more given [] bounds groups 0 least next c (at ∙ ap Some (let h : length given ≡ length given + 0 = omega arith in h)) (omega arith) (omega (arith, low)) few (recovered-more [] next c none.follows none.headers))

      pub first-some : (hs : List Stopped) (cuts : List ℕ) (least most low next : ℕ) (c : Image) → next ≡ b.own.sequence + 1 + groups → IsCut (length given) bounds → IsCut (length hs) cuts → most ≤ groups_in cuts → low ≤ length given + slice_index cuts least → FollowsSome (stood_of own next n m homes) hs cuts least most c
          → HasFirst b (given ++ hs) (bounds ++ further (length given) cuts) low c
      first-some hs cuts least most low next c few whole cut within below some =
          let inside : some.groups ≤ groups_in cuts = omega (arith, within) in
          let rise = cut-rise (length hs) cuts least some.groups cut some.from inside in
          let high = cut-within (length hs) cuts some.groups cut inside in
          let last = place-last (length given) bounds groups whole at in
          let there = get-more (length given) (length hs) bounds cuts some.groups whole cut inside in
          first-more given hs (bounds ++ further (length given) cuts) (groups_in bounds + some.groups) (slice_index cuts some.groups) low (next + some.groups) c there (omega (arith, high.1)) (omega (arith, below, rise)) (omega (arith, few, last))
          (recovered-more (handles_to cuts some.groups hs) (next + some.groups) c some.recovers.follows some.recovers.headers)

-- ---- entries of a list

follow-within : (first least past : ℕ) (es : List Entry) → Follow first least past es → (k : ℕ) (e : Entry) → slice_get es k ≡ Some e → (e.first < e.past) × (e.past ≤ past)
follow-within first least past [] is k e at = cc
follow-within first least past (x ∷ es) is zero e at =
    let rest = follow-length x.past (x.number + 1) past es is.3 in
    let same : x ≡ e = cc in
    subst (λ (y : Entry). (y.first < y.past) × (y.past ≤ past)) same (omega arith, omega (arith, rest))
follow-within first least past (x ∷ es) is (suc k) e at = follow-within x.past (x.number + 1) past es is.3 k e at

within-tiles : (es : List Entry) → Follow (start_of es) 0 (past_after 0 es) es → HaveTickets es
within-tiles es tiles e h = follow-within (start_of es) 0 (past_after 0 es) es tiles h.place e h.stands

-- ---- a mark is made

module _ {D : Type 0} where
  -- after the trail has got these entries
  marked-more : (ms : List (OpenDeck D)) (old new : OpenDeck D) (es : List Entry) → new.trail ≡ old.trail ++ es → All (IsMarked (ms ++ new ∷ [])) es
  marked-more ms old new es trail k d lt =
      let all = length-append old.trail es in
      let stands = slice_get-get_or (old.trail ++ es) (length old.trail + k) d (omega (arith, all, lt)) ∙ ap Some (get_or-append-add old.trail es k d) in
      record {
        at = length ms;
        mark = new;
        stands = get_last ms new;
        has = record { place = length old.trail + k; stands = ap (λ t. slice_get t (length old.trail + k)) trail ∙ stands };
      }

  -- of a journal that has failed
  failed-more : (ms : List (OpenDeck D)) (new : OpenDeck D) → new.aborted ≡ true → HasFailedMark (ms ++ new ∷ [])
  failed-more ms new failed = record { at = length ms; mark = new; stands = get_last ms new; failed = failed }

  pub marks-settled : (before after : ℕ) (p : Planned) (stamp : Stamp) (ms : List (OpenDeck D)) (old new : OpenDeck D) (r : Result Done BatchFault) → AnswersBatch before after p stamp old new r → MarksSettled (ms ++ new ∷ []) r
  marks-settled before after p stamp ms old new (Ok done) answers = marked-more ms old new (entries_of done) answers.2.trail
  marks-settled before after p stamp ms old new (Err (batch.Aborted back)) answers = failed-more ms new (ap (λ (d : OpenDeck D). d.aborted) answers.1 ∙ answers.0.0)
  marks-settled before after p stamp ms old new (Err (batch.DeviceFault settled)) answers = (marked-more ms old new (entries_of settled) answers.2.trail, failed-more ms new answers.2.aborted)
  marks-settled before after p stamp ms old new (Err refused) answers = tt

-- ---- since the start

-- what a crash may leave now is counted since any earlier moment
abbrev pub CountsNow : {D : Type 0} → Ghosts D → Type 0
CountsNow {D = D} G = (disk : D) (t : ℕ) (c : Image) → G.honest disk → t ≤ G.moment disk → G.may_leave disk c → G.left_since disk t c

-- what a crash may leave since now is what it may leave now
abbrev pub OnlyNow : {D : Type 0} → Ghosts D → Type 0
OnlyNow {D = D} G = (disk : D) (c : Image) → G.honest disk → G.left_since disk (G.moment disk) c → G.may_leave disk c

-- a mark of now is added, and lasts
pub marked-now : {D : Type 0} (G : Ghosts D) → OnlyNow G → (b : Begun) (known : Stopped → Type 0) (ms : List (OpenDeck D)) (d : OpenDeck D) → Follow (start_of d.trail) 0 (past_after 0 d.trail) d.trail → IsMarkedOf G b known ms d → IsMarkedOf G b known (ms ++ d ∷ []) d
marked-now G only_now b known ms d tiles is = record {
  since = is.since;
  marks_last = All-push (Lasts G b is.since.given is.since.bounds d) ms d is.marks_last (record {
    has = record { tiles = within-tiles d.trail tiles; settled = omega arith };
    same_shape = refl;
    was_honest = λ held. held;
    earlier = λ known_start held. omega arith;
    leaves = λ known_start held c left. (is.since.since known_start held).now c (only_now d.disk c held left);
  });
}

-- ---- a call after which a crash leaves what it could leave before, or all that were settled before

module _ {D : Type 0} (G : Ghosts D) (b : Begun) (given after : List Stopped) (bounds bounds_after : List ℕ) where
  abbrev Was : ℕ → Image → Type 0
  Was least c = HasFirst b given bounds least c

  abbrev Has : ℕ → Image → Type 0
  Has least c = HasFirst b after bounds_after least c

  pub ever-on : (low : ℕ) (old new : OpenDeck D) → ((least : ℕ) (c : Image) → Was least c → Has least c) → Since G b given bounds old
      → LeavesOnly G.moment G.left_since old.disk new.disk (Has low) → (c : Image) → G.left_since new.disk b.since c → b.left c ⊎ Has 0 c
  ever-on low old new longer s leaves c left =
      ⊎_elim
      (λ (was : G.left_since old.disk b.since c). ⊎_elim (λ (l : b.left c). inl l) (λ (f : Was 0 c). inr (longer 0 c f)) (s.ever c was))
      (λ (f : Has low c). inr (first-lower b after bounds_after 0 low c (omega arith) f))
      (leaves.before b.since c s.later left)

  -- as many are settled then, and the marks that lasted do so still
  pub kept-all : (old new : OpenDeck D) → new.shape ≡ old.shape → (G.honest new.disk → G.honest old.disk) → past_after 0 old.trail ≤ past_after 0 new.trail
      → ((least : ℕ) (c : Image) → Was least c → Has least c)
      → (b.is_known → G.honest new.disk → LeavesOnly G.moment G.left_since old.disk new.disk (Has (past_after 0 old.trail)))
      → (ms : List (OpenDeck D)) → All (Lasts G b given bounds old) ms → All (Lasts G b after bounds_after new) ms
  kept-all old new shape was_honest up longer leaves =
      All-weaker (Lasts G b given bounds old) (Lasts G b after bounds_after new) (λ m l. record {
        has = record { tiles = l.has.tiles; settled = omega arith };
        same_shape = shape ∙ l.same_shape;
        was_honest = λ held. l.was_honest (was_honest held);
        earlier = λ known_start held. (let was = l.earlier known_start (was_honest held) in let on = (leaves known_start held).later in omega (arith, was, on));
        leaves = λ known_start held c left.
            ⊎_elim
            (λ (was : G.left_since old.disk (G.moment m.disk) c). longer (past_after 0 m.trail) c (l.leaves known_start (was_honest held) c was))
            (λ (f : Has (past_after 0 old.trail) c). first-lower b after bounds_after (past_after 0 m.trail) (past_after 0 old.trail) c l.has.settled f)
            ((leaves known_start held).before (G.moment m.disk) c (l.earlier known_start (was_honest held)) left);
      })

-- ---- the first marks

-- what was settled at the marks that were seen is settled in the journal
pub settled-of : {D : Type 0} (G : Ghosts D) (b : Begun) (given : List Stopped) (bounds : List ℕ) (d : OpenDeck D) (ms all : List (OpenDeck D)) → IsPrefix ms all → All (Lasts G b given bounds d) all → All (HasSettledOf d) ms
settled-of G b given bounds d ms all p each = All-weaker (Lasts G b given bounds d) (HasSettledOf d) (λ m l. l.has) ms (all-first (Lasts G b given bounds d) ms all p each)
