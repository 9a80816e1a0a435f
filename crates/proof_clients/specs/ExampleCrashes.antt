-- Values of the examples on what a crash leaves: three handles, each its own group, and what homes hold.
use Rattle.std.specs.Prelude.{◌≡◌, ℕ, ◌<◌, cond, List, [], ◌∷◌, length, None, Ok}
use Rattle.std.specs.List.{list_any}
use Rattle.std.specs.Ordering.{nat_cmp, eq_by_cmp}
use Rattle.jb_disk.specs.Image.{Image}
use Rattle.jb_handle.specs.declared.stopped.Stopped.{Stopped}
use Rattle.jb_super.specs.Superblock.{Superblock}
use Rattle.jb_scan.specs.declared.transaction.Piece.{Piece}
use Rattle.jb_scan.specs.declared.transaction.Piece.TheVariants.{Revokes, Run}
use Rattle.jb_scan.specs.declared.transaction.Transaction.{Transaction}
use Rattle.jb_super.specs.Features.{wide_in}
use Rattle.jb_format.specs.Front.{homes_in, super_on}
use Rattle.jb_recover.specs.Refusals.{image_refusal}
use Rattle.jb_recover.specs.Window.{found_on}
use Rattle.jb_log.specs.Stood.{stood_of}
use Rattle.jb_deck.specs.GroupByGroup.{FollowsSome}
use Rattle.proof_clients.specs.Examples.{wrote_from}

-- three handles that write the same bytes: into home 1, into homes 2 and 3, into home 4
abbrev pub three_writes : List ℕ → List Stopped
three_writes bytes = wrote_from bytes 0 ((1 ∷ []) ∷ (2 ∷ 3 ∷ []) ∷ (4 ∷ []) ∷ [])

-- each handle is a group of its own
abbrev pub three_groups : List ℕ
three_groups = 0 ∷ 1 ∷ 2 ∷ 3 ∷ []

-- some homes have the new bytes, and all others the old ones
abbrev pub with_new : List ℕ → List ℕ → List ℕ → ℕ → List ℕ
with_new bs old new home = cond (list_any (eq_by_cmp nat_cmp home) bs) new old

-- what a crash may leave while the three groups are committed, of which this many are settled, where all homes had the
-- old bytes
abbrev pub MayBeLeft : Superblock → ℕ → ℕ → ℕ → ℕ → List ℕ → List ℕ → Image → Type 0
MayBeLeft own next size count settled old new c =
    FollowsSome (stood_of own next size count (λ home. old)) (three_writes new) three_groups settled 3 c

-- ---- recovery

-- a transaction of this number with these parts
abbrev pub transaction : ℕ → List Piece → Transaction
transaction number pieces = record { number = number; stamp = record { sec = 0; nsec = 0 }; pieces = pieces }

-- a copy for home 5 that holds these bytes
abbrev pub copy_of_five : List ℕ → Piece
copy_of_five bytes = Run ((record { home = 5; flags = 0; sum = 0 }, bytes) ∷ [])

-- two transactions, each with a copy for home 5
abbrev pub copied_twice : List ℕ → List ℕ → List Transaction
copied_twice older newer = transaction 7 (copy_of_five older ∷ []) ∷ transaction 8 (copy_of_five newer ∷ []) ∷ []

-- two transactions: a copy for home 5, and a revoke of it
abbrev pub copied_and_revoked : List ℕ → List Transaction
copied_and_revoked bytes = transaction 7 (copy_of_five bytes ∷ []) ∷ transaction 8 (Revokes 20 (5 ∷ []) ∷ []) ∷ []

-- an image of this many blocks, with this superblock and these transactions in its log, which recovery takes; it has
-- more than five homes
pub record HasLog (size count : ℕ) (sb : Superblock) (ts : List Transaction) (c : Image) : Type 0 where
  pub blocks : length c ≡ count
  pub taken : super_on size count c ≡ Ok sb
  pub not_refused : image_refusal size count c ≡ None
  pub found : found_on (wide_in sb) sb c ≡ ts
  pub homes : 5 < homes_in sb count
