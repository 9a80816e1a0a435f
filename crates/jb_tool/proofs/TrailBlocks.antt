-- The groups of a trail are added up, one after another.
use Rattle.std.proofs.Common.{◌≡◌, ℕ, ◌+◌, ◌*◌, ◌<◌, ◌≤◌, ◌^◌, List, length, get_or, drop, take, ap, arith}
use Rattle.std.specs.List.{sum_by}
use Rattle.std.proofs.lemmas.List.{get_or_default, take_more}
use Rattle.std.proofs.lemmas.List.Sums.{sum_by_push}
use Rattle.jb_deck.specs.Done.{Follow}
use Rattle.jb_deck.specs.declared.done.Entry.{Entry}
use Rattle.jb_book.proofs.TrailEntries.{at-entry}

-- a value for a place that is not there
abbrev pub no_entry : Entry
no_entry = record { first = 0; past = 0; number = 0; blocks = 0 }

-- the groups that are left follow others, which took few blocks, as numbers rise and are of 32 bits, and a group's blocks too
pub record Goes (past blocks : ℕ) (rest : List Entry) : Type 0 where
  pub first : ℕ
  pub least : ℕ
  pub follows : Follow first least past rest
  pub few : blocks ≤ least * 4294967295

module _ (trail : List Entry) (i : ℕ) (there : i < length trail) (blocks past taken : ℕ) (is : taken ≡ (get_or trail i no_entry).blocks) where
  here : get_or trail i no_entry ≡ get_or trail i (get_or trail i no_entry)
  here = get_or_default trail i no_entry (get_or trail i no_entry) there

  -- one more
  pub goes-more : (get_or trail i no_entry).blocks < 2 ^ 32 → Goes past blocks (drop i trail) → Goes past (blocks + taken) (drop (i + 1) trail)
  goes-more small so =
      let e = get_or trail i no_entry in
      let next = at-entry trail i e there here so.first so.least past so.follows in
      record { first = e.past; least = e.number + 1; follows = next.3; few = (let few = so.few in let low = next.2 in omega (arith, few, low, small, is)) }

  pub few-more : (get_or trail i no_entry).blocks < 2 ^ 32 → (get_or trail i no_entry).number < 2 ^ 32 → Goes past blocks (drop i trail) → blocks + taken < 2 ^ 64
  few-more small low so =
      let e = get_or trail i no_entry in
      let next = at-entry trail i e there here so.first so.least past so.follows in
      let few = so.few in
      let least = next.2 in
      omega (arith, few, least, low, small, is)

  pub sum-more : blocks ≡ sum_by (λ (e : Entry). e.blocks) (take i trail) → blocks + taken ≡ sum_by (λ (e : Entry). e.blocks) (take (i + 1) trail)
  sum-more so =
      let pushed = sum_by_push (λ (e : Entry). e.blocks) (take i trail) (get_or trail i no_entry) in
      let whole = ap (sum_by (λ (e : Entry). e.blocks)) (take_more trail i no_entry there) in
      omega (arith, so, is, pushed, whole)
