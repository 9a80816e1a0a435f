-- What follows for a ticket that some mark has shown: a later crash leaves its handle, and a later read sees it.
use Rattle.std.proofs.Common.{◌≡◌, ℕ, zero, suc, ◌+◌, ◌<◌, ◌≤◌, true, false, List, [], ◌∷◌, ◌++◌, All, length, Some, get_or, slice_get, sym, refl, ap, ◌∙◌, subst, arith, append_assoc, nat_le, cond, inl, inr}
use Rattle.std.proofs.Math.ListN.{get_or-append}
use Rattle.std.proofs.lemmas.List.{same_lists}
use Rattle.std.proofs.lemmas.List.Elements.{All-nil, All-push}
use Rattle.std.proofs.lemmas.Option.{get_or_from_slice_get, slice_get-get_or}
use Rattle.jb_plan.specs.Batch.{gathered}
use Rattle.jb_cost.specs.Cut.{RisesTo, IsCut}
use Rattle.jb_cost.specs.Pieces.{pieces}
use Rattle.jb_cost.proofs.Cuts.{rises-le}
use Rattle.jb_deck.specs.declared.done.Entry.{Entry}
use Rattle.jb_deck.specs.Done.{least_after, past_after}
use Rattle.jb_handle.specs.declared.shape.Shape.{Shape}
use Rattle.jb_handle.specs.declared.stopped.Stopped.{Stopped}
use Rattle.jb_handle.specs.Tickets.{TicketsFrom}
use Rattle.jb_handle.specs.Word.{WordMap}
use Rattle.jb_board.proofs.EntryPlaces.{at-place, get_last, placed_on}
use Rattle.jb_book.specs.Account.{Account, trail_from}
use Rattle.jb_book.specs.Calls.{IsCutOf}
use Rattle.jb_book.specs.CallsToBook.{IsInHistory, IsRestOf, AreCut, HasOut}
use mathlib.Core.List.{IsPrefix}
use Rattle.jb_disk.specs.declared.disk.Disk.{Ghosts}
use Rattle.jb_board.specs.HistoryRule.{StandsIn}
use Rattle.jb_deck.specs.Deck.{OpenDeck}
use Rattle.jb_book.specs.Marks.{IsMarked}
use Rattle.jb_book.specs.Origin.{Begun}
use Rattle.jb_book.specs.SinceMark.{HasSettledOf, IsShown, Lasts, ShownIsGiven, ShownStays, HaveTickets}
use Rattle.jb_book.proofs.MarksLast.{first-lower}

-- ---- handles of one history, cuts of nothing, and what is left of a trail

-- ---- handles of one history

-- what stands in a first part of a history stands in the whole
pub recorded-on : (xs ys : List WordMap) → IsPrefix xs ys → (hs : List Stopped) → All (IsInHistory xs) hs → All (IsInHistory ys) hs
recorded-on xs ys p hs each k d lt = let h = get_or hs k d in placed_on xs ys p (h.ticket, h.words) (each k d lt)

-- one more handle stops, at the end of the history
pub recorded-more : (log : List WordMap) (queue : List Stopped) (ticket : ℕ) (words : WordMap) → All (IsInHistory log) queue → length log ≡ ticket
    → All (IsInHistory (log ++ words ∷ [])) (queue ++ record { ticket = ticket; words = words } ∷ [])
recorded-more log queue ticket words stand at =
    let more = log ++ words ∷ [] in
    All-push (IsInHistory more) queue (record { ticket = ticket; words = words })
    (recorded-on log more (words ∷ [], refl) queue stand)
    (subst (λ k. IsInHistory more (record { ticket = k; words = words })) at (get_last log words))

get-back : {E : Type 0} (xs ys : List E) (k : ℕ) (e : E) → k < length xs → slice_get (xs ++ ys) k ≡ Some e → slice_get xs k ≡ Some e
get-back xs ys k e lt at = slice_get-get_or xs k e lt ∙ ap Some (sym (get_or-append xs ys e k lt) ∙ get_or_from_slice_get (xs ++ ys) k e e at)

pub ticket-at : (n : ℕ) (hs : List Stopped) → TicketsFrom n hs → (k : ℕ) (d : Stopped) → k < length hs → (get_or hs k d).ticket ≡ n + k
ticket-at n [] is k d lt = absurd (omega (arith, lt))
ticket-at n (h ∷ hs) is zero d lt = omega arith
ticket-at n (h ∷ hs) is (suc k) d lt = let rest = ticket-at (n + 1) hs is.1 k d (omega (arith, lt)) in omega (arith, rest)

-- handles whose tickets are below the history's end stand in it before the next one stops
pub recorded-back : (log more : List WordMap) (n : ℕ) (hs : List Stopped) → TicketsFrom n hs → n + length hs ≤ length log → All (IsInHistory (log ++ more)) hs → All (IsInHistory log) hs
recorded-back log more n hs tickets few each k d lt =
    let h = get_or hs k d in
    let at = ticket-at n hs tickets k d lt in
    get-back log more h.ticket h.words (omega (arith, at, few, lt)) (each k d lt)

-- as many handles of one history from one ticket on are the same
pub same-out : (log : List WordMap) (n : ℕ) (xs ys : List Stopped) → TicketsFrom n xs → TicketsFrom n ys → All (IsInHistory log) xs → All (IsInHistory log) ys → length xs ≡ length ys → xs ≡ ys
same-out log n xs ys tx ty ax ay long = same_lists xs ys long (λ k d lt.
    let x = get_or xs k d in
    let y = get_or ys k d in
    let at : x.ticket ≡ y.ticket = ticket-at n xs tx k d lt ∙ sym (ticket-at n ys ty k d (omega (arith, lt, long))) in
    let both : Some x.words ≡ Some y.words = sym (ax k d lt) ∙ ap (slice_get log) at ∙ ay k d (omega (arith, lt, long)) in
    let words : x.words ≡ y.words = cc in
    λ i. record { ticket = at i; words = words i })

-- ---- cuts of nothing

none-rise : (bs : List ℕ) → RisesTo 0 0 bs → bs ≡ []
none-rise [] is = refl
none-rise (b ∷ bs) is = let low = rises-le 0 b bs is.1 in absurd (omega (arith, low))

pub none-pieces : (hs : List Stopped) (cut : List ℕ) → length hs ≡ 0 → IsCut (length hs) cut → pieces cut hs ≡ []
none-pieces (h ∷ hs) cut none is = absurd (omega (arith, none))
none-pieces [] [] none is = absurd is
none-pieces [] (a ∷ bs) none is = ap (λ cs. pieces (a ∷ cs) []) (none-rise bs (subst (λ k. RisesTo 0 k bs) is.0 is.1))

no-cut : (shape : Shape) (settled : ℕ) → IsCutOf (gathered settled [] shape) (0 ∷ [])
no-cut shape settled = record {
  fitting = record { cut = (refl, refl); fits = tt };
  least = λ other fits. omega arith;
}

pub none-are : (log : List WordMap) (a : Account) → a.shadow.settled ≡ a.shadow.taken → AreCut log a [] (0 ∷ [])
none-are log a free = (record { tickets = tt; recorded = All-nil (IsInHistory log); number = (let h : a.shadow.settled + 0 ≡ a.shadow.taken = omega (arith, free) in h) }, no-cut a.shape a.shadow.settled)

pub none-out : (log : List WordMap) (a : Account) → a.shadow.settled ≡ a.shadow.taken → HasOut log a
none-out log a free = record { handles = []; cut = 0 ∷ []; are = none-are log a free }

-- ---- trails

least-rest : (least : ℕ) (front : List Entry) (e : Entry) (left : List Entry) → least_after least (front ++ e ∷ left) ≡ least_after 0 (e ∷ left)
least-rest least [] e left = refl
least-rest least (f ∷ front) e left = least-rest (f.number + 1) front e left

pub least-same : (left full : List Entry) → IsRestOf left full → least_after 0 left ≡ least_after 0 full
least-same [] full rest = ap (least_after 0) (sym (rest.last refl))
least-same (e ∷ left) full rest = sym (least-rest 0 rest.front e left) ∙ ap (least_after 0) rest.is

both-none : (xs ys : List Entry) → xs ++ ys ≡ [] → (xs ≡ []) × (ys ≡ [])
both-none [] ys none = (refl, none)
both-none (x ∷ xs) ys none = cc

pub rest-more : (left full es : List Entry) → IsRestOf left full → IsRestOf (left ++ es) (full ++ es)
rest-more left full es rest = record {
  front = rest.front;
  is = sym (append_assoc rest.front left es) ∙ ap (λ l. l ++ es) rest.is;
  last = λ none. let both = both-none left es none in ap (λ l. l ++ es) (rest.last both.0) ∙ both.1;
}

pub rest-from : (past : ℕ) (left : List Entry) → IsRestOf (trail_from past left) left
rest-from past [] = record { front = []; is = refl; last = λ none. refl }
rest-from past (e ∷ []) = record { front = []; is = refl; last = λ none. none }
rest-from past (e ∷ f ∷ es) =
    let rest = rest-from past (f ∷ es) in
    elim (nat_le e.past past) as (λ b. IsRestOf (cond b (trail_from past (f ∷ es)) (e ∷ f ∷ es)) (e ∷ f ∷ es)) [
      | true ↦ record { front = e ∷ rest.front; is = ap (λ l. e ∷ l) rest.is; last = λ none. cc (rest.last none) }
      | false ↦ record { front = []; is = refl; last = λ none. none }
    ]

pub rest-of-rest : (less left full : List Entry) → IsRestOf less left → IsRestOf left full → IsRestOf less full
rest-of-rest less left full one two = record {
  front = two.front ++ one.front;
  is = append_assoc two.front one.front less ∙ ap (λ l. two.front ++ l) one.is ∙ two.is;
  last = λ none. two.last (one.last none);
}

-- ---- the mark that shows a ticket

-- one of the marks, whose trail goes on after the ticket, if its entries are as a trail's
record ShownAt {D : Type 0} (marks : List (OpenDeck D)) (ticket : ℕ) : Type 0 where
  at : ℕ
  mark : OpenDeck D
  stands : StandsIn marks (at, mark)
  late : HaveTickets mark.trail → ticket < past_after 0 mark.trail

-- by an entry that ends after the ticket
shown-in : {D : Type 0} (marks : List (OpenDeck D)) (ticket : ℕ) (e : Entry) → IsMarked marks e → (e.first < e.past → ticket < e.past) → ShownAt marks ticket
shown-in marks ticket e is up = record {
  at = is.at;
  mark = is.mark;
  stands = is.stands;
  late = λ within. (let tiles = within e is.has in omega (arith, up tiles.0));
}

shown-at : {D : Type 0} (marks : List (OpenDeck D)) (ticket : ℕ) → IsShown marks ticket → ShownAt marks ticket
shown-at marks ticket (inl (number, s)) = shown-in marks ticket s.entry s.marked (λ some. s.to)
shown-at marks ticket (inr s) = shown-in marks ticket s.entry s.marked (λ some. omega arith)

-- ---- a crash

pub stays : {D : Type 0} (G : Ghosts D) (b : Begun) → ShownStays G b
stays G b stops handles shape disk trail known before marks ticket ends first shown known_start held =
    let s = shown-at before ticket shown in
    let m = s.mark in
    let last = at-place (Lasts G b ends.ends.since.given ends.ends.since.bounds ends.ends.deck) marks s.at m (placed_on before marks first (s.at, m) s.stands) ends.last in
    let late = s.late last.has.tiles in
    let there = subst G.honest (sym ends.ends.same_disk) held in
    record {
      at = s.at;
      mark = m;
      stands = s.stands;
      earlier = subst (λ x. G.moment m.disk ≤ G.moment x) ends.ends.same_disk (last.earlier known_start there);
      log = ends.ends.log;
      stopped = ends.ends.stopped;
      deck = ends.ends.deck;
      same_trail = ends.ends.same_trail;
      given = ends.ends.since.given;
      bounds = ends.ends.since.bounds;
      has = ends.ends.since.has;
      leaves = λ c left. first-lower b ends.ends.since.given ends.ends.since.bounds (suc ticket) (past_after 0 m.trail) c (omega (arith, late)) (last.leaves known_start there c (subst (λ x. G.left_since x (G.moment m.disk) c) (sym ends.ends.same_disk) left));
    }

-- ---- a read

pub shown_is_given : {D : Type 0} (G : Ghosts D) (b : Begun) → ShownIsGiven G b
shown_is_given G b known marks d ticket words is each shown stopped =
    let s = shown-at marks ticket shown in
    let has = at-place (HasSettledOf d) marks s.at s.mark s.stands each in
    let late = s.late has.tiles in
    let within : ticket < length is.given = omega (arith, late) in
    let any : Stopped = record { ticket = ticket; words = words } in
    let h = get_or is.given ticket any in
    let same : h.ticket ≡ ticket = (let at = ticket-at 0 is.given is.has.tickets ticket any within in omega (arith, at)) in
    let stands : StandsIn known (h.ticket, h.words) = (is.has.stopped ticket any within).1 in
    record {
      handle = h;
      stands = slice_get-get_or is.given ticket any within;
      same_ticket = same;
      same_words = (let both : Some h.words ≡ Some words = sym stands ∙ ap (slice_get known) same ∙ stopped in cc (both));
      settled = omega (arith, late);
    }
