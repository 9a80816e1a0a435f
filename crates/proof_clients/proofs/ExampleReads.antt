-- What the one handle that stopped leaves in the homes that are read.
use Rattle.std.proofs.Common.{◌≡◌, ℕ, ◌<◌, List, [], ◌∷◌, All, Some, length, slice_get, refl, sym, ap, subst, arith}
use Rattle.std.specs.FinMap as map
use Rattle.std.proofs.lemmas.Option.{same_Some, slice_get_within}
use Rattle.jb_handle.specs.Tickets.{TicketsFrom}
use Rattle.jb_handle.specs.Words.{word}
use Rattle.jb_handle.specs.Word.{WordMap}
use Rattle.jb_handle.specs.declared.stopped.Stopped.{Stopped}
use Rattle.jb_log.specs.Follows.{StandsBy}
use Rattle.jb_book.specs.CallsToBook.{IsInHistory}
use Rattle.jb_book.specs.Origin.{Begun}
use Rattle.jb_book.specs.Marks.{HasEntry}
use Rattle.jb_deck.specs.declared.done.Entry.{Entry}
use Rattle.jb_journal.specs.Notes.{IsInNotes, Note, ReadsAs}
use Rattle.proof_clients.specs.ExampleMarks.{first, entry, one_entry}
use Rattle.proof_clients.specs.ExampleNotes.{first_known, noted_at}

-- the note that has the handle
pub first-noted : IsInNotes first_known.notes 0 7
first-noted = record {
  at = 0;
  note = noted_at 5 one_entry;
  stands = refl;
  entry = entry 7 0 1;
  has = record { place = 0; stands = refl };
  from = omega arith;
  to = omega arith;
  is_number = refl;
}

-- the only note of a journal with this trail
only-note : (trail : List Entry) (notes : List Note) → notes ≡ noted_at 5 trail ∷ [] → (ticket number : ℕ) → (is : IsInNotes notes ticket number) → HasEntry trail is.entry
only-note trail notes are ticket number is =
    let stands : slice_get (noted_at 5 trail ∷ []) is.at ≡ Some is.note = subst (λ (ns : List Note). slice_get ns is.at ≡ Some is.note) are is.stands in
    let at : is.at ≡ 0 = omega (arith, slice_get_within (noted_at 5 trail ∷ []) is.at is.note stands) in
    let note : noted_at 5 trail ≡ is.note = same_Some (noted_at 5 trail) is.note (subst (λ n. slice_get (noted_at 5 trail ∷ []) n ≡ Some is.note) at stands) in
    subst (λ (n : Note). HasEntry n.trail is.entry) (sym note) is.has

-- no note lists a handle of a journal that has committed none
pub none-noted : (ticket number : ℕ) → IsInNotes (noted_at 5 [] ∷ []) ticket number → ⊥
none-noted ticket number is =
    let has = only-note [] (noted_at 5 [] ∷ []) refl ticket number is in
    omega (arith, slice_get_within [] has.place is.entry has.stands)

-- the only handle of a journal that has committed one is noted
pub first-only : (ticket number : ℕ) → IsInNotes first_known.notes ticket number → ticket < 1
first-only ticket number is =
    let has = only-note one_entry first_known.notes refl ticket number is in
    let place : has.place ≡ 0 = omega (arith, slice_get_within one_entry has.place is.entry has.stands) in
    let own : entry 7 0 1 ≡ is.entry = same_Some (entry 7 0 1) is.entry (subst (λ n. slice_get one_entry n ≡ Some is.entry) place has.stands) in
    let past : 1 ≡ is.entry.past = ap (λ (e : Entry). e.past) own in
    omega (arith, past, is.to)

-- handles of this history leave in a home what its only one does, where there are any
pub one-left : (given : List Stopped) → TicketsFrom 0 given → All (IsInHistory (first ∷ [])) given → 0 < length given → (home : ℕ) → word given home ≡ map.get first home
one-left [] tickets are some home = absurd (omega (arith, some))
one-left (h ∷ []) tickets are some home =
    let at : slice_get (first ∷ []) 0 ≡ Some h.words = subst (λ n. slice_get (first ∷ []) n ≡ Some h.words) tickets.0 (are 0 h (omega arith)) in
    ap (λ (w : WordMap). map.get w home) (sym (same_Some first h.words at))
one-left (h ∷ i ∷ given) tickets are some home = absurd (omega (arith, tickets.1.0, slice_get_within (first ∷ []) i.ticket i.words (are 1 i (omega arith))))

module _ (b : Begun) (sure : Type 0) (known : b.is_known) (is_sure : sure) (home : ℕ) (found : List ℕ) (reads : ReadsAs b sure first_known first_known home found) where
  -- so it is read
  pub read-first : StandsBy (map.get first home) (b.homes home) found
  read-first =
      let some : 0 < length reads.given = reads.sees 0 7 first-noted in
      subst (λ w. StandsBy w (b.homes home) found) (one-left reads.given reads.tickets reads.are some home) (reads.stands known is_sure)
