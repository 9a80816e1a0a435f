-- What is first in a part of a life that commits two handles.
use Rattle.std.proofs.Common.{◌≡◌, ℕ, zero, suc, List, [], ◌∷◌, ◌++◌, map, take, length, get_or, slice_index, sym, ap, ◌∙◌, arith}
use Rattle.jb_super.specs.Superblock.{Superblock}
use Rattle.jb_handle.specs.declared.stopped.Stopped.{Stopped}
use Rattle.jb_plan.specs.Prepare.{Planned}
use Rattle.jb_deck.specs.Changes.{DeckChange, fills, settles, tears}
use Rattle.proof_clients.specs.ExampleCalls.{two_handled}
use Rattle.proof_clients.specs.Lives.{IsPartOfLife, nothing, of_batch}
use Rattle.proof_clients.specs.Programs.{IsPartOf, commits, no_more, in_batch, after_batch}

-- the ticket of a change that settles a handle, and a high number for another one
abbrev pub ticket_in : DeckChange → ℕ
ticket_in (settles h) = h.ticket
ticket_in (fills home bytes) = 9
ticket_in (tears home bytes) = 9

-- the changes begin with this one
abbrev pub first_in : List DeckChange → DeckChange → ℕ
first_in changes none = ticket_in (get_or changes 0 none)

-- the first handles of the two, where there are any, begin with the first
first-taken : (n : ℕ) (x : DeckChange) → x ∷ [] ≡ map settles (take n two_handled) → ticket_in x ≡ 0
first-taken zero x is = absurd (let long = ap length is in omega (arith, long))
first-taken (suc n) x is = ap (λ (l : List DeckChange). first_in l x) is

-- a batch that has left one change alone, has left the first handle
of-batch : (x : DeckChange) (batch : Planned) (changes : List DeckChange) (groups : ℕ) → IsPartOf (commits batch ∷ []) changes groups → batch.batch.handles ≡ two_handled → changes ≡ x ∷ [] → ticket_in x ≡ 0
of-batch x batch _ _ (no_more _) same is = absurd (let long = ap length is in omega (arith, long))
of-batch x batch _ _ (in_batch _ _ some within) same is =
    first-taken (slice_index batch.groups some) x (sym is ∙ ap (λ (hs : List Stopped). map settles (take (slice_index batch.groups some) hs)) same)
of-batch x batch _ _ (after_batch _ _ more further rest) same is =
    let whole : x ∷ [] ≡ map settles two_handled ++ more = sym is ∙ ap (λ (hs : List Stopped). map settles hs ++ more) same in
    ap (λ (l : List DeckChange). first_in l x) whole

-- so has a life
pub first-part : (own : Superblock) (count groups : ℕ) (changes : List DeckChange) (x : DeckChange) → IsPartOfLife own count two_handled changes groups → changes ≡ x ∷ [] → ticket_in x ≡ 0
first-part own count groups _ x nothing is = absurd (let long = ap length is in omega (arith, long))
first-part own count groups _ x (of_batch batch changes many of part) is = of-batch x batch changes many part of.same is
