-- What a history says of the stops that it has.
use Rattle.std.proofs.Common.{◌≡◌, ℕ, zero, suc, ◌<◌, ◌≤◌, List, [], ◌∷◌, length, get_or, All, refl, arith, sum_by}
use Rattle.std.specs.FinMap as map
use Rattle.std.proofs.lemmas.List.Sums.{sum_by-cons}
use Rattle.std.proofs.lemmas.Option.{slice_get_within}
use Rattle.jb_handle.specs.Tickets.{TicketsFrom}
use Rattle.jb_handle.specs.Word.{WordMap}
use Rattle.jb_handle.specs.declared.stopped.Stopped.{Stopped}
use Rattle.jb_board.specs.HistoryRule.{with_places}
use Rattle.jb_book.specs.Origin.{Begun}
use Rattle.jb_book.specs.History.{IsStop}
use Rattle.jb_journal.proofs.KnownStays.{ticket-at}

-- 1 for the first place, and 0 for each other one
abbrev pub at_first : ℕ × WordMap → ℕ
at_first (zero, words) = 1
at_first (suc n, words) = 0

none-later : (n : ℕ) (log : List WordMap) → sum_by at_first (with_places (suc n) log) ≡ 0
none-later n [] = refl
none-later n (words ∷ log) = omega (arith, sum_by-cons at_first (suc n, words) (with_places (suc (suc n)) log), none-later (suc n) log)

-- one entry stands at the first place
pub one-first : (log : List WordMap) → sum_by at_first (with_places 0 log) ≤ 1
one-first [] = omega arith
one-first (words ∷ log) = omega (arith, sum_by-cons at_first (0, words) (with_places 1 log), none-later 0 log)

-- a handle of a history is an entry of it
pub inside : (b : Begun) (log : List WordMap) (given : List Stopped) → TicketsFrom 0 given → All (IsStop b log) given → (k : ℕ) → k < length given → k < length log
inside b log given tickets are k lt =
    let none : Stopped = record { ticket = 0; words = map.empty } in
    let h : Stopped = get_or given k none in
    omega (arith, ticket-at 0 given tickets k none lt, slice_get_within log h.ticket h.words (are k none lt).1)
