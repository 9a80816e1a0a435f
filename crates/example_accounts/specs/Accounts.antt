-- The accounts: what the bytes of its home block say that each holds, and what they hold together.
use Rattle.std.specs.Prelude.{◌≡◌, ◌≢◌, ℕ, zero, suc, ◌+◌, ◌<◌, List, [], ◌∷◌, take, set, sum, replicate, slice_index}
use Rattle.std.specs.Prelude.{Option, Some, None}
use Rattle.std.specs.FinMap as map
use Rattle.std.specs.Int.{w64, from_be_bytes}
use Rattle.jb_journal.specs.Names.{Copy, Free, Word, WordMap}
use Rattle.example_accounts.specs.declared.moves.Move.{Move}

-- what an account holds whose home block has these bytes: the big-endian number in the first eight of them
abbrev pub balance_in : List ℕ → ℕ
balance_in bytes = from_be_bytes w64 (take 8 bytes)

-- what so many accounts hold, from this one on, where the home blocks have these bytes
unfoldable pub balances_from : (ℕ → List ℕ) → ℕ → ℕ → List ℕ
balances_from homes account zero = []
balances_from homes account (suc n) = balance_in (homes account) ∷ balances_from homes (suc account) n

-- what each of the 100 accounts holds, where the home blocks have these bytes
abbrev pub balances_in : (ℕ → List ℕ) → List ℕ
balances_in homes = balances_from homes 0 100

-- what all accounts hold together
abbrev pub money_in : (ℕ → List ℕ) → ℕ
money_in homes = sum (balances_in homes)

-- what each account holds once it is opened
abbrev pub opening_balances : List ℕ
opening_balances = replicate 100 1000

-- What all accounts hold together after so many handles, the first by ticket: what they held at first. Where that was
-- nothing, the first handle opens all of them
abbrev pub money_after : ℕ → ℕ → ℕ
money_after zero zero = 0
money_after zero (suc handles) = 100000
money_after (suc first) handles = suc first

-- The move begins with what the accounts hold: it takes an amount from one account, which holds as much, and gives the
-- same to another
pub record IsMove (before : List ℕ) (m : Move) : Type 0 where
  pub within : (m.from < 100) × (m.to < 100)
  pub apart : m.from ≢ m.to
  pub amount : ℕ
  pub some : 0 < amount
  pub taken : m.less + amount ≡ slice_index before m.from
  pub added : m.more ≡ slice_index before m.to + amount

-- what the accounts hold after a move
abbrev pub moved_by : Move → List ℕ → List ℕ
moved_by m before = set (set before m.from m.less) m.to m.more

-- what the word of an account's home says that it holds, which held this before: as much, where there is no word, or
-- what its bytes say
abbrev pub LeavesBalance : ℕ → ℕ → Option Word → Type 0
LeavesBalance before after None = after ≡ before
LeavesBalance before after (Some (Copy bytes)) = balance_in bytes ≡ after
LeavesBalance before after (Some Free) = ⊥

-- the words of a handle say that the accounts hold this, which held that before
abbrev pub LeavesBalances : List ℕ → List ℕ → WordMap → Type 0
LeavesBalances before after words = (account : ℕ) → account < 100
    → LeavesBalance (slice_index before account) (slice_index after account) (map.get words account)

-- the words of a handle say that an account holds this
pub record SaysBalance (words : WordMap) (account balance : ℕ) : Type 0 where
  pub bytes : List ℕ
  pub are : map.get words account ≡ Some (Copy bytes)
  pub says : balance_in bytes ≡ balance

-- a handle with these words has written the home of an account, with bytes that say that it holds this
pub record PutsBalance (account balance : ℕ) (old new : WordMap) : Type 0 where
  pub bytes : List ℕ
  pub says : balance_in bytes ≡ balance
  pub are : new ≡ map.insert old account (Copy bytes)

-- the same of the homes of two accounts, one after the other
pub record PutsTwo (from less to more : ℕ) (old new : WordMap) : Type 0 where
  pub mid : WordMap
  pub first : PutsBalance from less old mid
  pub second : PutsBalance to more mid new
