-- Tickets of lists one after the other.
use Rattle.std.proofs.Common.{◌≡◌, ℕ, suc, ◌+◌, List, [], ◌∷◌, ◌++◌, length, subst, arith}
use Rattle.jb_handle.specs.declared.stopped.Stopped.{Stopped}
use Rattle.jb_handle.specs.Tickets.{TicketsFrom}

pub tickets-append : (n : ℕ) (hs ks : List Stopped) → TicketsFrom n hs → TicketsFrom (n + length hs) ks → TicketsFrom n (hs ++ ks)
tickets-append n [] ks first rest = subst (λ k. TicketsFrom k ks) (let same : n + 0 ≡ n = omega arith in same) rest
tickets-append n (h ∷ hs) ks first rest = (first.0, tickets-append (n + 1) hs ks first.1 (subst (λ k. TicketsFrom k ks) (let same : n + suc (length hs) ≡ n + 1 + length hs = omega arith in same) rest))

pub tickets-first : (n : ℕ) (hs ks : List Stopped) → TicketsFrom n (hs ++ ks) → TicketsFrom n hs
tickets-first n [] ks all = tt
tickets-first n (h ∷ hs) ks all = (all.0, tickets-first (n + 1) hs ks all.1)
