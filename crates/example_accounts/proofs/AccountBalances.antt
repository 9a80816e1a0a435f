-- The balances in home blocks, and what a handle's words make of them.
use Rattle.std.proofs.Common.{◌≡◌, ℕ, zero, suc, ◌+◌, ◌<◌, Bool, true, false, cond, List, length, get_or, set, nat_cmp, nat_eq, sum, Option, Some, None, refl, sym, ap, subst, ◌∙◌, ⊎_elim, inr, arith}
use Rattle.std.specs.FinMap as map
use Rattle.std.specs.Cmp.{nat_cmp_total, unsigned_tied}
use Rattle.std.specs.Option.{option_or}
use Rattle.std.proofs.lemmas.Bool.{cases_eq, eqb-true, eq-eqb}
use Rattle.std.proofs.lemmas.List.{ext_get_or, get_or-replicate, get_or-set_other, get_or-set_same, length-set}
use Rattle.std.proofs.lemmas.List.Sums.{get_or-le-sum_by, sum_by-set}
use Rattle.jb_journal.specs.Names.{Copy, Free, StandsBy, Word, WordMap}
use Rattle.example_accounts.specs.Accounts.{IsMove, LeavesBalance, LeavesBalances, PutsBalance, PutsTwo, SaysBalance, balance_in, balances_from, balances_in, money_after, moved_by, opening_balances}
use Rattle.example_accounts.specs.Postings.{OpensOrMoves}
use Rattle.example_accounts.specs.declared.moves.Move.{Move}

-- ---- the balances in home blocks

pub balance-from : (homes : ℕ → List ℕ) (n first k : ℕ) → k < n → get_or (balances_from homes first n) k 0 ≡ balance_in (homes (first + k))
unfolding balances_from
balance-from homes zero first k lt = absurd (omega (arith, lt))
balance-from homes (suc n) first zero lt = let same : first ≡ first + 0 = omega arith in ap (λ a. balance_in (homes a)) same
balance-from homes (suc n) first (suc k) lt =
    let same : suc first + k ≡ first + suc k = omega arith in
    balance-from homes n (suc first) k (omega (arith, lt)) ∙ ap (λ a. balance_in (homes a)) same

pub length-balances : (homes : ℕ → List ℕ) (n first : ℕ) → length (balances_from homes first n) ≡ n
unfolding balances_from
length-balances homes zero first = refl
length-balances homes (suc n) first = ap suc (length-balances homes n (suc first))

pub balance-at : (homes : ℕ → List ℕ) (account : ℕ) → account < 100 → get_or (balances_in homes) account 0 ≡ balance_in (homes account)
balance-at homes account lt =
    let same : 0 + account ≡ account = omega arith in
    balance-from homes 100 0 account lt ∙ ap (λ a. balance_in (homes a)) same

-- balances that are those of each home are all
pub all-balances : (homes : ℕ → List ℕ) (balances : List ℕ) → length balances ≡ 100 → ((account : ℕ) → account < 100 → get_or balances account 0 ≡ balance_in (homes account)) → balances ≡ balances_in homes
all-balances homes balances long each =
    ext_get_or 0 balances (balances_in homes) (long ∙ sym (length-balances homes 100 0))
    (λ account lt. let within : account < 100 = omega (arith, lt, long) in each account within ∙ sym (balance-at homes account within))

-- ---- what was put

apart : (a b : ℕ) → (a ≡ b → ⊥) → nat_eq a b ≡ false
apart a b differ = go (nat_eq a b) refl
  where
    go : (v : Bool) → nat_eq a b ≡ v → nat_eq a b ≡ false
    go true e = absurd (differ (eqb-true a b e))
    go false e = e

put-at : (account balance : ℕ) (old new : WordMap) (put : PutsBalance account balance old new) (q : ℕ) (same : Bool) → nat_eq q account ≡ same → map.get new q ≡ cond same (Some (Copy put.bytes)) (map.get old q)
put-at account balance old new put q same is =
    ap (λ w. map.get w q) put.are ∙ map.get-insert nat_cmp_total old account (Copy put.bytes) q
    ∙ ap (λ v. cond v (Some (Copy put.bytes)) (map.get old q)) (unsigned_tied q account ∙ is)

pub put-same : (account balance : ℕ) (old new : WordMap) → PutsBalance account balance old new → (q : ℕ) → q ≡ account → SaysBalance new q balance
put-same account balance old new put q same = record { bytes = put.bytes; are = put-at account balance old new put q true (eq-eqb q account same); says = put.says }

pub put-other : (account balance : ℕ) (old new : WordMap) → PutsBalance account balance old new → (q : ℕ) → (q ≡ account → ⊥) → map.get new q ≡ map.get old q
put-other account balance old new put q differ = put-at account balance old new put q false (apart q account differ)

pub says-other : (account balance : ℕ) (old new : WordMap) → PutsBalance account balance old new → (q held : ℕ) → (q ≡ account → ⊥) → SaysBalance old q held → SaysBalance new q held
says-other account balance old new put q held differ says = record { bytes = says.bytes; are = put-other account balance old new put q differ ∙ says.are; says = says.says }

says-leaves : (words : WordMap) (account balance before after : ℕ) → SaysBalance words account balance → after ≡ balance → LeavesBalance before after (map.get words account)
says-leaves words account balance before after says same = subst (LeavesBalance before after) (sym says.are) (says.says ∙ sym same)

-- all accounts are opened
pub opening-leaves : (before : List ℕ) (words : WordMap) → ((account : ℕ) → account < 100 → SaysBalance words account 1000) → LeavesBalances before opening_balances words
opening-leaves before words says account lt = says-leaves words account 1000 (get_or before account 0) (get_or opening_balances account 0) (says account lt) (get_or-replicate 100 account 1000 0 lt)

-- money is moved
pub move-leaves : (before : List ℕ) (m : Move) (none two : WordMap) → length before ≡ 100 → IsMove before m → none ≡ map.empty → PutsTwo m.from m.less m.to m.more none two → LeavesBalances before (moved_by m before) two
move-leaves before m none two long is empty puts account lt =
    let one = puts.mid in
    let first = puts.first in
    let second = puts.second in
    let mid = set before m.from m.less in
    let after = set mid m.to m.more in
    let within-to : m.to < length mid = let w = is.within.1 in omega (arith, w, length-set before m.from m.less, long) in
    let within-from : m.from < length before = let w = is.within.0 in omega (arith, w, long) in
    ⊎_elim
    (λ (to : account ≡ m.to). says-leaves two account m.more (get_or before account 0) (get_or after account 0) (put-same m.to m.more one two second account to) (ap (λ k. get_or after k 0) to ∙ get_or-set_same mid m.to m.more 0 within-to))
    (λ (not-to : account ≡ m.to → ⊥). ⊎_elim
    (λ (from : account ≡ m.from). says-leaves two account m.less (get_or before account 0) (get_or after account 0)
    (says-other m.to m.more one two second account m.less not-to (put-same m.from m.less none one first account from))
    (get_or-set_other mid m.to account m.more 0 not-to ∙ ap (λ k. get_or mid k 0) from ∙ get_or-set_same before m.from m.less 0 within-from))
    (λ (not-from : account ≡ m.from → ⊥). subst (LeavesBalance (get_or before account 0) (get_or after account 0))
    (sym (put-other m.to m.more one two second account not-to ∙ put-other m.from m.less none one first account not-from ∙ ap (λ w. map.get w account) empty ∙ map.get-empty nat_cmp account))
    (get_or-set_other mid m.to account m.more 0 not-to ∙ get_or-set_other before m.from account m.less 0 not-from))
    (cases_eq account m.from))
    (cases_eq account m.to)

-- ---- what accounts hold together

pub move-keeps : (before : List ℕ) (m : Move) → length before ≡ 100 → IsMove before m → OpensOrMoves before (moved_by m before)
move-keeps before m long is =
    let mid = set before m.from m.less in
    let from : m.from < length before = let w = is.within.0 in omega (arith, w, long) in
    let to : m.to < length mid = let w = is.within.1 in omega (arith, w, length-set before m.from m.less, long) in
    let less = sum_by-set (λ (x : ℕ). x) before m.from m.less 0 from in
    let more = sum_by-set (λ (x : ℕ). x) mid m.to m.more 0 to in
    let there : get_or mid m.to 0 ≡ get_or before m.to 0 = get_or-set_other before m.from m.to m.less 0 (λ same. is.apart (sym same)) in
    let part = get_or-le-sum_by (λ (x : ℕ). x) before m.from 0 from in
    let taken = is.taken in
    let added = is.added in
    let some = is.some in
    inr (omega (arith, part, taken, some), omega (arith, less, more, there, taken, added))

pub opening-money : sum opening_balances ≡ 100000
opening-money = refl

money-first : (first : ℕ) → money_after first 0 ≡ first
money-first zero = refl
money-first (suc first) = refl

money-opens : (first handles : ℕ) → money_after first handles ≡ 0 → money_after first (suc handles) ≡ 100000
money-opens zero zero none = refl
money-opens zero (suc handles) none = absurd (omega (arith, none))
money-opens (suc first) handles none = absurd (omega (arith, none))

money-stays : (first handles : ℕ) → 0 < money_after first handles → money_after first (suc handles) ≡ money_after first handles
money-stays zero zero some = absurd (omega (arith, some))
money-stays zero (suc handles) some = refl
money-stays (suc first) handles some = refl

pub money-start : (first : ℕ) → first ≡ money_after first 0
money-start first = sym (money-first first)

pub money-next : (first handles : ℕ) (before after : List ℕ) → sum before ≡ money_after first handles → OpensOrMoves before after → sum after ≡ money_after first (suc handles)
money-next first handles before after was keeps = ⊎_elim
    (λ opens. ap sum opens.1 ∙ opening-money ∙ sym (money-opens first handles (sym was ∙ opens.0)))
    (λ moves. moves.1 ∙ was ∙ sym (money-stays first handles (subst (λ m. 0 < m) was moves.0)))
    keeps

-- what an account holds after one handle more
pub holds-next : (now was : Option Word) (home bytes : List ℕ) (before after : ℕ) → LeavesBalance before after now → StandsBy (option_or now was) home bytes → (StandsBy was home bytes → balance_in bytes ≡ before) → balance_in bytes ≡ after
holds-next None was home bytes before after leaves stands earlier = earlier stands ∙ sym leaves
holds-next (Some (Copy put)) was home bytes before after leaves stands earlier = ap balance_in stands ∙ leaves
holds-next (Some Free) was home bytes before after leaves stands earlier = absurd leaves
