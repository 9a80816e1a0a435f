-- Tickets: the place of each handle in the order of stops.
use Rattle.std.specs.Prelude.{◌≡◌, ℕ, ◌+◌, List, [], ◌∷◌}
use Rattle.jb_handle.specs.declared.stopped.Stopped.{Stopped}

-- the handles have the tickets n, n + 1 and so on
abbrev pub TicketsFrom : ℕ → List Stopped → Type 0
TicketsFrom n [] = Unit {0}
TicketsFrom n (h ∷ hs) = (h.ticket ≡ n) × TicketsFrom (n + 1) hs
