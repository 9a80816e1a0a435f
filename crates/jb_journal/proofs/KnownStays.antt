-- A handle that its client knew to be committed stays.
use Rattle.std.proofs.Common.{◌≡◌, ℕ, zero, suc, ◌+◌, ◌<◌, List, [], ◌∷◌, ◌++◌, All, Some, slice_get, get_or, length, sym, ap, subst, ◌∙◌, arith}
use Rattle.std.proofs.Math.Seq.{drop-append_seam, take-append_seam}
use Rattle.std.proofs.lemmas.List.Elements.{All-drop, All-take}
use Rattle.std.proofs.lemmas.Option.{same_Some, slice_get-get_or}
use Rattle.jb_cost.specs.Pieces.{joined}
use Rattle.jb_disk.specs.declared.disk.Disk.{Ghosts}
use Rattle.jb_handle.specs.Tickets.{TicketsFrom}
use Rattle.jb_handle.specs.Word.{WordMap}
use Rattle.jb_handle.specs.declared.shape.Shape.{Shape}
use Rattle.jb_handle.specs.declared.stopped.Stopped.{Stopped}
use Rattle.jb_board.proofs.EntryPlaces.{at-place, get_before}
use Rattle.jb_board.specs.HistoryRule.{StandsIn}
use Rattle.jb_deck.specs.Done.{past_after}
use Rattle.jb_book.proofs.ShownTickets.{ticket-at as ticket_at}
use Rattle.jb_book.specs.Origin.{Begun}
use Rattle.jb_book.specs.History.{IsStop}
use Rattle.jb_journal.specs.Notes.{AreInNotes, IsInNotes, Known, KnownLasts, NoteLasts, Stop}
use Rattle.jb_journal.specs.Run.{RanAll}
use Rattle.jb_journal.specs.Stays.{HandleStays}
use Rattle.jb_journal.specs.declared.ran.Ran.{Ran}
use Rattle.jb_journal.proofs.ClientNotes.{noted-stays}

-- what holds of all lists that are joined holds of each
all-parts : {A : Type 0} (P : A → Type 0) (lists : List (List A)) → All P (joined lists) → (k : ℕ) (xs : List A) → slice_get lists k ≡ Some xs → All P xs
all-parts P [] each k xs at = absurd (cc)
all-parts P (ys ∷ lists) each zero xs at = subst (All P) (take-append_seam ys (joined lists) ∙ same_Some ys xs at) (All-take P (length ys) (ys ++ joined lists) each)
all-parts P (ys ∷ lists) each (suc k) xs at = all-parts P lists (subst (All P) (drop-append_seam ys (joined lists)) (All-drop P (length ys) (ys ++ joined lists) each)) k xs at

pub ticket-at : (n : ℕ) (hs : List Stopped) → TicketsFrom n hs → (k : ℕ) (d : Stopped) → k < length hs → (get_or hs k d).ticket ≡ n + k
ticket-at = ticket_at

-- of handles that stopped as the history says, the one with a ticket has its words
given-at : (b : Begun) (log : List WordMap) (given : List Stopped) → TicketsFrom 0 given → All (IsStop b log) given → (stop : ℕ × WordMap) → StandsIn log stop → stop.0 < length given
    → slice_get given stop.0 ≡ Some (record { ticket = stop.0; words = stop.1 })
given-at b log given tickets stopped stop stands lt =
    let none : Stopped = record { ticket = stop.0; words = stop.1 } in
    let h : Stopped = get_or given stop.0 none in
    let at = ticket-at 0 given tickets stop.0 none lt in
    let ticket : h.ticket ≡ stop.0 = omega (arith, at) in
    let words = same_Some h.words stop.1 (sym (stopped stop.0 none lt).1 ∙ ap (slice_get log) ticket ∙ stands) in
    slice_get-get_or given stop.0 none lt ∙ ap (λ (x : Stopped). Some x) (λ i. record { ticket = ticket i; words = words i })

module _ {T D : Type 0} (G : Ghosts D) (b : Begun) (may : Type 0 → ℕ → ℕ → List Stop → Known → T → Type 0) (workers : ℕ) (shape : Shape) (ran : Ran T D)
    (all : RanAll G b may workers shape ran) where
  -- what a client knew lasts
  pub lasts-at : (by : ℕ) (known : Known) → slice_get all.known by ≡ Some known → KnownLasts G b all.ends.log all.ends.since.given all.ends.since.bounds ran.disk ran.trail.items known
  lasts-at by known is = at-place (KnownLasts G b all.ends.log all.ends.since.given all.ends.since.bounds ran.disk ran.trail.items) all.known by known is all.last

  -- the handle of one worker's client stays, where the client of one of them knew that it was committed
  pub stays-noted : (at by : ℕ) (stops : List Stop) (known : Known) → slice_get all.stopped at ≡ Some stops → slice_get all.known by ≡ Some known → (k : ℕ) (stop : Stop) → slice_get stops k ≡ Some stop
      → (number : ℕ) → IsInNotes known.notes stop.0 number → HandleStays G b may workers shape ran all known.notes stop
  stays-noted at by stops known stopped is k stop placed number n =
      let last = (lasts-at by known is).last in
      let notes = known.notes in
      let one = at-place (NoteLasts G b all.ends.since.given all.ends.since.bounds ran.disk ran.trail.items) notes n.at n.note n.stands last in
      let stand = all-parts (StandsIn all.ends.log) all.stopped all.ends.stopped.stand at stops stopped in
      let stands = at-place (StandsIn all.ends.log) stops k stop placed stand in
      let within = (one.tiles n.entry n.has).1 in
      let to = n.to in
      let settled = one.settled in
      let trail : past_after 0 all.ends.deck.trail ≡ past_after 0 ran.trail.items = ap (past_after 0) all.ends.same_trail in
      let given = all.ends.since.has.settled in
      record {
        number = number;
        noted = n;
        given = given-at b all.ends.log all.ends.since.given all.ends.since.has.tickets all.ends.since.has.stopped stop stands (omega (arith, within, to, settled, trail, given));
        stays = λ is_known held by m. noted-stays G b all.ends.since.given all.ends.since.bounds ran.disk ran.trail.items notes stop.0 by m last is_known held;
      }

  -- the first of a client's handles stay, where the client of one of them knew that they were committed
  pub all-stay : (at by : ℕ) (stops : List Stop) (known : Known) → slice_get all.stopped at ≡ Some stops → slice_get all.known by ≡ Some known → (first last : List Stop) → stops ≡ first ++ last → AreInNotes known.notes first
      → All (HandleStays G b may workers shape ran all known.notes) first
  all-stay at by stops known stopped is first last are each k d lt =
      let stop : Stop = get_or first k d in
      let placed : slice_get stops k ≡ Some stop = subst (λ l. slice_get l k ≡ Some stop) (sym are) (get_before first last k stop (slice_get-get_or first k d lt)) in
      let one = each k d lt in
      stays-noted at by stops known stopped is k stop placed one.0 one.1
