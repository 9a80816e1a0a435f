-- Small cases of the definitions: what they hold of, and what they do not.
use Rattle.std.proofs.Common.{◌≡◌, ◌+◌, [], ◌∷◌, Some, refl, arith}
use Rattle.example_accounts.specs.Accounts.{IsMove, LeavesBalance, balance_in, money_after, opening_balances}
use Rattle.example_accounts.specs.Postings.{ComesAfter}
use Rattle.example_accounts.specs.declared.posting.Posting.{Posting}
use Rattle.jb_journal.specs.Names.{Free}

-- 3 * 256 + 232 in eight bytes, whatever follows
thousand : balance_in (0 ∷ 0 ∷ 0 ∷ 0 ∷ 0 ∷ 0 ∷ 3 ∷ 232 ∷ 9 ∷ []) ≡ 1000
thousand = refl

-- accounts that held something hold it after any handles
kept : money_after 70 3 ≡ 70
kept = refl

-- those that held nothing hold nothing until the first handle
not-opened : money_after 0 0 ≡ 0
not-opened = refl

opened : money_after 0 1 ≡ 100000
opened = refl

-- ten are moved from the first account to the second
ten : IsMove opening_balances (record { from = 0; to = 1; less = 990; more = 1010 })
ten = record { within = (omega arith, omega arith); apart = λ same. absurd (omega (arith, same)); amount = 10; some = omega arith; taken = refl; added = refl }

-- where one more is added than was taken, it is no move
eleven : IsMove opening_balances (record { from = 0; to = 1; less = 990; more = 1011 }) → ⊥
eleven is =
    let taken : 990 + is.amount ≡ 1000 = is.taken in
    let added : 1011 ≡ 1000 + is.amount = is.added in
    omega (arith, taken, added)

-- a handle that frees an account leaves no balance
freed : LeavesBalance 5 5 (Some Free) → ⊥
freed is = is

-- a second handle with the same ticket comes after none
twice : (p : Posting) → ComesAfter (Some p) p → ⊥
twice p comes = let above = comes.0 in omega (arith, above)
