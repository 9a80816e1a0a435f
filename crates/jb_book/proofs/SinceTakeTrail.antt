-- Entries that are taken from the trail of a journal since its desk was started.
use Rattle.std.proofs.Common.{◌≡◌, ℕ, Some, zero, suc, ◌+◌, ◌≤◌, List, [], ◌∷◌, ◌++◌, length, take, refl, ap, subst, arith, drop, All, Result, Ok, Err, IfOk, OnErr, sym, ◌∙◌, length-append}
use Rattle.std.specs.Global.{Vec}
use Rattle.std.proofs.Math.Seq.{drop-append_seam}
use Rattle.std.proofs.lemmas.List.Elements.{All-drop, All-weaker}
use Rattle.std.specs.declared.alloc.AllocError.{AllocError}
use Rattle.jb_deck.specs.Done.{Follow, start_of, past_after}
use Rattle.jb_deck.specs.GroupsOfBatch.{entries_for, entries_from}
use Rattle.jb_deck.specs.TakeTrail.{StopsAt, MayTakeFirst, TakesTrail, oldest_number}
use Rattle.jb_deck.specs.declared.done.Entry.{Entry}
use Rattle.jb_book.specs.Since.{AreGroups, NumberedFrom, HasFirst, IsCosted, Since, WasGiven}
use Rattle.jb_disk.specs.declared.disk.Disk.{Ghosts}
use Rattle.jb_handle.specs.declared.stopped.Stopped.{Stopped}
use Rattle.jb_deck.specs.Deck.{OpenDeck}
use Rattle.jb_deck.specs.Conduct.{take_trail}
use Rattle.jb_deck.proofs.Conduct.{asked-on}
use Rattle.jb_deck.proofs.TakeEntries.{next-rest}
use Rattle.jb_book.specs.Journal.{GivesTrail}
use Rattle.jb_book.specs.Origin.{Begun}
use Rattle.jb_book.specs.SinceMark.{IsMarkedOf, Lasts}
use Rattle.jb_book.proofs.GroupBounds.{groups-left}
use Rattle.jb_book.proofs.SinceNoHandles.{plain-is}

-- ---- the entries of a trail have consecutive numbers

numbered-from : (c : ℕ → ℕ → ℕ) (ticket number a : ℕ) (bs : List ℕ) → NumberedFrom number (entries_from c ticket number a bs)
numbered-from c ticket number a [] = tt
numbered-from c ticket number a (b ∷ bs) = (refl, numbered-from c ticket (number + 1) b bs)

-- those of a cut have
pub numbered-for : (c : ℕ → ℕ → ℕ) (ticket number : ℕ) (bounds : List ℕ) → NumberedFrom number (entries_for c ticket number bounds)
numbered-for c ticket number [] = tt
numbered-for c ticket number (a ∷ bs) = numbered-from c ticket number a bs

-- so have the first of them
pub numbered-first : (number k : ℕ) (es : List Entry) → NumberedFrom number es → NumberedFrom number (take k es)
numbered-first number zero es is = tt
numbered-first number (suc k) [] is = tt
numbered-first number (suc k) (e ∷ es) is = (is.0, numbered-first (number + 1) k es is.1)

-- and those that go on after others
pub numbered-on : (number : ℕ) (es fs : List Entry) → NumberedFrom number es → NumberedFrom (number + length es) fs → NumberedFrom number (es ++ fs)
numbered-on number [] fs is on = subst (λ n. NumberedFrom n fs) (let h : number + 0 ≡ number = omega arith in h) on
numbered-on number (e ∷ es) fs is on = (is.0, numbered-on (number + 1) es fs is.1 (subst (λ n. NumberedFrom n fs) (let h : number + suc (length es) ≡ number + 1 + length es = omega arith in h) on))

-- and those that are left once others were taken
pub numbered-rest : (number : ℕ) (es fs : List Entry) → NumberedFrom number (es ++ fs) → NumberedFrom (number + length es) fs
numbered-rest number [] fs is = subst (λ n. NumberedFrom n fs) (let h : number ≡ number + 0 = omega arith in h) is
numbered-rest number (e ∷ es) fs is = subst (λ n. NumberedFrom n fs) (let h : number + 1 + length es ≡ number + suc (length es) = omega arith in h) (numbered-rest (number + 1) es fs is.1)

-- ---- a trail that begins at the ticket 0 is whole

-- entries at its end do not change where it begins
pub start-more : (es fs : List Entry) (P : ℕ → Type 0) → ((es ≡ []) → P 0) → (start_of es ≡ 0 → P (length es)) → start_of (es ++ fs) ≡ 0 → P (length es)
start-more [] fs P none some starts = none refl
start-more (e ∷ es) fs P none some starts = some starts

later-start : (first least past : ℕ) (es : List Entry) (f : Entry) (fs : List Entry) → Follow first least past (es ++ f ∷ fs) → first + length es ≤ f.first
later-start first least past [] f fs is = omega arith
later-start first least past (e ∷ es) f fs is = let rest = later-start e.past (e.number + 1) past es f fs is.3 in omega (arith, rest)

-- where what is left of one begins at it, none was taken
pub none-taken : (oldest past end : ℕ) (taken rest : List Entry) → StopsAt oldest past taken rest → Follow (start_of (taken ++ rest)) 0 end (taken ++ rest) → start_of rest ≡ 0 → length taken ≡ 0
none-taken oldest past end taken [] stops tiles starts = ap length stops
none-taken oldest past end [] (f ∷ fs) stops tiles starts = refl
none-taken oldest past end (e ∷ es) (f ∷ fs) stops tiles starts = absurd (let low = later-start e.first 0 end (e ∷ es) f fs tiles in let h : ⊥ = omega (arith, low, starts) in h)

-- ---- entries that are taken from the trail of a journal since its desk was started

module _ {D : Type 0} (G : Ghosts D) (b : Begun) (known : Stopped → Type 0) (past : ℕ) (ms : List (OpenDeck D)) (old new : OpenDeck D) (tiles : Follow (start_of old.trail) 0 (past_after 0 old.trail) old.trail) (is : IsMarkedOf G b known ms old) where
  module _ (taken : List Entry) (takes : TakesTrail past old new taken) where
    -- where none was taken, what is left begins where it did
    whole-start : (front rest : List Entry) → length front ≡ 0 → old.trail ≡ front ++ rest → start_of rest ≡ 0 → start_of old.trail ≡ 0
    whole-start [] rest none is starts = ap start_of is ∙ starts
    whole-start (e ∷ front) rest none is starts = absurd (omega (arith, none))

    -- the journal with what is left of its trail
    abbrev left : OpenDeck D
    left = record old { trail = new.trail }

    -- the last entry is the same
    ends : past_after 0 old.trail ≡ past_after 0 new.trail
    ends = ap (past_after 0) takes.is ∙ (next-rest (oldest_number old) past taken new.trail takes.stops).0

    both : length old.trail ≡ length taken + length new.trail
    both = ap length takes.is ∙ length-append taken new.trail

    left-given : (given : List Stopped) (bounds : List ℕ) → WasGiven known given bounds old → WasGiven known given bounds left
    left-given given bounds has = record {
      stopped = has.stopped;
      tickets = has.tickets;
      settled = subst (λ n. n ≤ length given) ends has.settled;
      all = λ up. has.all up ∙ ends;
      cut = has.cut;
      groups = groups-left old.aborted (oldest_number old) past (past_after 0 old.trail) taken new.trail bounds takes.stops (subst (λ es. Follow (start_of es) 0 (past_after 0 old.trail) es) takes.is tiles)
          (subst (λ es. AreGroups old.aborted es bounds) takes.is has.groups);
      costs = subst (All (IsCosted old.shape given)) (ap (drop (length taken)) takes.is ∙ drop-append_seam taken new.trail) (All-drop (IsCosted old.shape given) (length taken) old.trail has.costs);
      first = has.first + length taken;
      numbers = numbered-rest has.first taken new.trail (subst (NumberedFrom has.first) takes.is has.numbers);
      next = (let all = both in omega (arith, all));
    }

    left-stands : (given : List Stopped) (bounds : List ℕ) → Since G b given bounds old → Since G b given bounds left
    left-stands given bounds s = record {
      same_size = s.same_size;
      same_count = s.same_count;
      no_fewer = s.no_fewer;
      up = s.up;
      same = s.same;
      groups = s.groups;
      settled = s.settled ∙ ap Some ends;
      number = s.number;
      began = λ starts.
          let none = none-taken (oldest_number old) past (past_after 0 old.trail) taken new.trail takes.stops (subst (λ es. Follow (start_of es) 0 (past_after 0 old.trail) es) takes.is tiles) starts in
          let all = both in
          let before : old.log.next ≡ b.own.sequence + 1 + length old.trail = s.began (whole-start taken new.trail none takes.is starts) in
          omega (arith, none, all, before);
      stood = s.stood;
      live = s.live;
      now = subst (λ n. (c : _) → G.may_leave old.disk c → HasFirst b given bounds n c) ends s.now;
      later = s.later;
      ever = s.ever;
    }

    left-lasts : (given : List Stopped) (bounds : List ℕ) (m : OpenDeck D) → Lasts G b given bounds old m → Lasts G b given bounds left m
    left-lasts given bounds m l = let settled : past_after 0 m.trail ≤ past_after 0 new.trail = (let same = ends in omega (arith, same)) in assumption

    taken-marked : IsMarkedOf G b known ms new
    taken-marked = record {
      since = record {
        given = is.since.given;
        bounds = is.since.bounds;
        has = subst (WasGiven known is.since.given is.since.bounds) (sym takes.same) (left-given is.since.given is.since.bounds is.since.has);
        asked = asked-on G (take_trail past taken takes) is.since.asked;
        since = λ known_start held. subst (Since G b is.since.given is.since.bounds) (sym takes.same) (left-stands is.since.given is.since.bounds (is.since.since known_start (subst (λ (d : OpenDeck D). G.honest d.disk) takes.same held)));
      };
      marks_last = subst (λ (d : OpenDeck D). All (Lasts G b is.since.given is.since.bounds d) ms) (sym takes.same)
          (All-weaker (Lasts G b is.since.given is.since.bounds old) (Lasts G b is.since.given is.since.bounds left) (left-lasts is.since.given is.since.bounds) ms is.marks_last);
    }

  abbrev Takes : Result (Vec Entry) AllocError → Type 0
  Takes r = IfOk r (λ taken. TakesTrail past old new taken.items)

  abbrev Keeps : Result (Vec Entry) AllocError → Type 0
  Keeps r = OnErr r ((new ≡ old) × MayTakeFirst (oldest_number old) past old.trail)

  pub take-marked : (r : Result (Vec Entry) AllocError) → Takes r → Keeps r → IsMarkedOf G b known ms new
  take-marked (Ok taken) takes keeps = taken-marked taken.items takes
  take-marked (Err memory) takes keeps = subst (IsMarkedOf G b known ms) (sym keeps.0) is

  pub gives-trail : ((h : Stopped) → known h → b.stops h.words) → (r : Result (Vec Entry) AllocError) → Takes r → Keeps r → GivesTrail G b r
  unfolding taken-marked
  gives-trail plain (Ok taken) takes keeps = record {
    past = past;
    old = old;
    new = new;
    tiles = tiles;
    takes = takes;
    before = plain-is G b known plain old is.since;
    after = plain-is G b known plain new (taken-marked taken.items takes).since;
    same = refl;
  }
  gives-trail plain (Err memory) takes keeps = record { past = past; deck = old; since = plain-is G b known plain old is.since; some = keeps.1 }
