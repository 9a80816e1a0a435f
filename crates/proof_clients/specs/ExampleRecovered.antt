-- Values of the examples on what recovery makes of an image: a clean one, and what homes hold on it.
use Rattle.std.specs.Prelude.{◌≡◌, ℕ, ◌+◌, ◌<◌, ◌≤◌, List, length, None, Ok}
use Rattle.jb_disk.specs.Image.{Image, block}
use Rattle.jb_super.specs.Superblock.{Superblock}
use Rattle.jb_scan.specs.Old.{IsOld}
use Rattle.jb_scan.specs.declared.transaction.Transaction.{Transaction}
use Rattle.jb_super.specs.declared.checked.CheckedSuper.{CheckedSuper}
use Rattle.jb_format.specs.CheckedFront.{checked_on}
use Rattle.jb_format.specs.Front.{homes_in, super_on}
use Rattle.jb_recover.specs.CheckedRefusals.{checked_found, checked_refusal}

-- an image of a journal with this superblock, which says that there is nothing to recover
pub record IsClean (size count : ℕ) (sb : Superblock) (c : Image) : Type 0 where
  pub taken : super_on size count c ≡ Ok sb
  pub clean : sb.start ≡ 0

-- no block of the log is of a transaction from this number on
abbrev pub AreOld : ℕ → Superblock → Image → Type 0
AreOld next sb c = (p : ℕ) → sb.first ≤ p → p < sb.maxlen → IsOld next (block c p)

-- what the homes behind a journal hold
abbrev pub homes_on : Superblock → Image → ℕ → List ℕ
homes_on sb c home = block c (sb.maxlen + home)

-- an image of a journal that may have checksums, of this many blocks, with this superblock and these transactions in
-- its log, which recovery takes; it has more than five homes
pub record HasCheckedLog (size count : ℕ) (found : CheckedSuper) (ts : List Transaction) (c : Image) : Type 0 where
  pub blocks : length c ≡ count
  pub taken : checked_on size count c ≡ Ok found
  pub not_refused : checked_refusal size count c ≡ None
  pub found_are : checked_found found c ≡ ts
  pub homes : 5 < homes_in found.plain count
