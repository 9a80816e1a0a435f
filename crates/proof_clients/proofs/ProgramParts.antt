-- The parts of a program: what they change, one after another, and what a part of them is.
use Rattle.std.proofs.Common.{◌≡◌, ◌∙◌, ℕ, ◌+◌, true, nat_eq, List, [], ◌∷◌, ◌++◌, map, append_assoc, Result, Ok, Err, refl, ap, sym, arith, add_assoc, zero-add}
use Rattle.std.proofs.lemmas.Bool.Decides.{nat_tests}
use Rattle.jb_deck.specs.Changes.{DeckChange, HoldsAfter, fills, settles, torn_by}
use Rattle.jb_deck.specs.GroupsOfBatch.{groups_in}
use Rattle.jb_deck.specs.declared.freed.FreeFault.{FreeFault}
use Rattle.jb_deck.specs.declared.freed.FreeFault.TheVariants.{Aborted, NotFree, Length, DeviceFault}
use Rattle.proof_clients.specs.Programs.{IsPartOf, ProgramPart, after_batch, after_write, all_changes, all_groups, commits, in_write, no_more, writes}

-- a home that was written last holds these bytes
pub filled : (done : List DeckChange) (home : ℕ) (bytes held found : List ℕ) → HoldsAfter (done ++ fills home bytes ∷ []) home held found → found ≡ bytes
filled [] home bytes held found is =
    let here : nat_eq home home ≡ true = grind (arith, nat_tests) in
    is.2 ∙ rw here at is.1
filled (c ∷ done) home bytes held found is = filled done home bytes is.0 found is.2

-- whatever a write of a freed home answers, what is left of it is a part of it
pub torn-part : (r : Result (Unit {0}) FreeFault) (home : ℕ) (bytes : List ℕ) (rest : List ProgramPart) → IsPartOf (writes home bytes ∷ rest) (torn_by r home bytes) 0
torn-part (Ok done) home bytes rest = in_write home bytes rest
torn-part (Err Aborted) home bytes rest = no_more (writes home bytes ∷ rest)
torn-part (Err NotFree) home bytes rest = no_more (writes home bytes ∷ rest)
torn-part (Err Length) home bytes rest = no_more (writes home bytes ∷ rest)
torn-part (Err DeviceFault) home bytes rest = in_write home bytes rest

-- what some parts changed, and then a part of the next ones, is a part of all
pub part-on : (made rest : List ProgramPart) (changes : List DeckChange) (more : ℕ) → IsPartOf rest changes more
    → IsPartOf (made ++ rest) (all_changes made ++ changes) (all_groups made + more)
part-on [] rest changes more part = rw (zero-add more) part
part-on (commits batch ∷ made) rest changes more part =
    rw (append_assoc (map settles batch.batch.handles) (all_changes made) changes, add_assoc (groups_in batch.groups) (all_groups made) more)
    (after_batch batch (made ++ rest) (all_changes made ++ changes) (all_groups made + more) (part-on made rest changes more part))
part-on (writes home bytes ∷ made) rest changes more part =
    after_write home bytes (made ++ rest) (all_changes made ++ changes) (all_groups made + more) (part-on made rest changes more part)

-- what is changed by further parts
pub changes-append : (made more : List ProgramPart) → all_changes (made ++ more) ≡ all_changes made ++ all_changes more
changes-append [] more = refl
changes-append (commits batch ∷ made) more = rw (changes-append made more, append_assoc (map settles batch.batch.handles) (all_changes made) (all_changes more))
changes-append (writes home bytes ∷ made) more = ap (λ cs. fills home bytes ∷ cs) (changes-append made more)

-- and in how many groups
pub groups-append : (made more : List ProgramPart) → all_groups (made ++ more) ≡ all_groups made + all_groups more
groups-append [] more = sym (zero-add (all_groups more))
groups-append (commits batch ∷ made) more = rw (groups-append made more, add_assoc (groups_in batch.groups) (all_groups made) (all_groups more))
groups-append (writes home bytes ∷ made) more = groups-append made more
