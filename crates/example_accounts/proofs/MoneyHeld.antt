-- What the accounts hold after each first handles, where each handle is posted.
use Rattle.std.proofs.Common.{◌≡◌, ℕ, zero, suc, ◌+◌, ◌<◌, ◌≤◌, List, [], length, get_or, take, sum, Option, Some, None, slice_get, refl, sym, ap, subst, ◌∙◌, ⊎_elim, arith}
use Rattle.std.specs.FinMap as map
use Rattle.std.specs.Option.{option_or}
use Rattle.std.proofs.lemmas.List.{take_more}
use Rattle.jb_handle.proofs.TouchedHomes.{word-append}
use Rattle.jb_disk.specs.Image.{Image}
use Rattle.jb_super.specs.Superblock.{Superblock}
use Rattle.jb_recover.specs.Outcomes.{recovered}
use Rattle.jb_deck.proofs.Lives.{opening-recovered}
use Rattle.jb_deck.specs.Calls.{IsRecoveredTo}
use Rattle.jb_deck.specs.Open.{FollowsEntry, home_by, recovered_home}
use Rattle.jb_book.specs.Since.{HasFirst}
use Rattle.jb_journal.specs.Names.{Begun, StandsBy, Stopped, WordMap, word}
use Rattle.example_accounts.specs.Accounts.{LeavesBalances, balance_in, balances_in, money_after}
use Rattle.example_accounts.specs.Conserved.{HoldsThroughout, RecoversMoney}
use Rattle.example_accounts.specs.Postings.{ArePostings, IsPosted}
use Rattle.example_accounts.specs.declared.posting.Posting.{Posting}
use Rattle.example_accounts.proofs.AccountBalances.{all-balances, balance-at, holds-next, length-balances, money-next, money-start}
use Rattle.example_accounts.proofs.PostingPlaces.{from-place, later, next-begins, posting-at}

-- ---- the balances after each first handles

-- what a posting leaves, or this where there is none
abbrev left_by : List ℕ → Option Posting → List ℕ
left_by first None = first
left_by first (Some p) = p.after

-- what the accounts hold after the first so many postings
abbrev standing : List ℕ → List Posting → ℕ → List ℕ
standing first ps zero = first
standing first ps (suc n) = left_by first (slice_get ps n)

-- the posting of the handle with this ticket stands at its place, and begins with what the one before has left
record IsStep (first : List ℕ) (ps : List Posting) (n : ℕ) (words : WordMap) : Type 0 where
  posting : Posting
  at : slice_get ps n ≡ Some posting
  ticket : posting.ticket ≡ n
  leaves : LeavesBalances posting.before posting.after words
  begins : posting.before ≡ standing first ps n

module _ (b : Begun) (known : b.is_known) (ps : List Posting) (are : ArePostings None ps) where
  step-first : (words : WordMap) → IsPosted b (Unit {0}) ps (0, words) → IsStep (balances_in b.homes) ps 0 words
  step-first words is =
      let low = from-place ps are is.number is.posting is.stands in
      let ticket = is.ticket in
      let place : is.number ≡ 0 = omega (arith, low, ticket) in
      record {
        posting = is.posting;
        at = subst (λ k. slice_get ps k ≡ Some is.posting) place is.stands;
        ticket = is.ticket;
        leaves = is.leaves;
        begins = is.first refl known tt;
      }

  step-next : (n : ℕ) (was words : WordMap) → IsStep (balances_in b.homes) ps n was → IsPosted b (Unit {0}) ps (suc n, words) → IsStep (balances_in b.homes) ps (suc n) words
  step-next n was words before is =
      let low = from-place ps are is.number is.posting is.stands in
      let earlier = before.ticket in
      let ticket = is.ticket in
      let above : before.posting.ticket < is.posting.ticket = omega (arith, earlier, ticket) in
      let high = later None ps are n is.number before.posting is.posting before.at is.stands above in
      let place : is.number ≡ suc n = omega (arith, low, high, ticket) in
      let at : slice_get ps (suc n) ≡ Some is.posting = subst (λ k. slice_get ps k ≡ Some is.posting) place is.stands in
      record {
        posting = is.posting;
        at = at;
        ticket = is.ticket;
        leaves = is.leaves;
        begins = next-begins None ps are n before.posting is.posting before.at at ∙ sym (ap (left_by (balances_in b.homes)) before.at);
      }

  module _ (given : List Stopped) (posted : (n : ℕ) (d : Stopped) → n < length given → IsPosted b (Unit {0}) ps (n, (get_or given n d).words)) where
    abbrev no_handle : Stopped
    no_handle = record { ticket = 0; words = map.empty }

    abbrev first : List ℕ
    first = balances_in b.homes

    step : (n : ℕ) → n < length given → IsStep first ps n (get_or given n no_handle).words
    step zero lt = step-first (get_or given 0 no_handle).words (posted 0 no_handle lt)
    step (suc n) lt = step-next n (get_or given n no_handle).words (get_or given (suc n) no_handle).words (step n (omega (arith, lt))) (posted (suc n) no_handle lt)

    -- the word that one handle more leaves at a home
    word-more : (n home : ℕ) → n < length given → word (take (suc n) given) home ≡ option_or (map.get (get_or given n no_handle).words home) (word (take n given) home)
    word-more n home lt =
        let one : suc n ≡ n + 1 = omega arith in
        ap (λ k. word (take k given) home) one ∙ ap (λ hs. word hs home) (take_more given n no_handle lt) ∙ word-append (take n given) (get_or given n no_handle) home

    account-holds : (account : ℕ) → account < 100 → (n : ℕ) → n ≤ length given → (bytes : List ℕ) → StandsBy (word (take n given) account) (b.homes account) bytes → balance_in bytes ≡ get_or (standing first ps n) account 0
    account-holds account lt zero within bytes stands = ap balance_in stands ∙ sym (balance-at b.homes account lt)
    account-holds account lt (suc n) within bytes stands =
        let inside : n < length given = omega (arith, within) in
        let s = step n inside in
        let now = map.get (get_or given n no_handle).words account in
        let was = word (take n given) account in
        let grown : StandsBy (option_or now was) (b.homes account) bytes = subst (λ o. StandsBy o (b.homes account) bytes) (word-more n account inside) stands in
        holds-next now was (b.homes account) bytes (get_or s.posting.before account 0) (get_or s.posting.after account 0) (s.leaves account lt) grown
        (λ stood. account-holds account lt n (omega (arith, within)) bytes stood ∙ sym (ap (λ l. get_or l account 0) s.begins))
        ∙ sym (ap (λ o. get_or (left_by first o) account 0) s.at)

    whole : (n : ℕ) → n ≤ length given → length (standing first ps n) ≡ 100
    whole zero within = length-balances b.homes 100 0
    whole (suc n) within =
        let s = step n (omega (arith, within)) in
        ap (λ o. length (left_by first o)) s.at ∙ (posting-at None ps are n s.posting s.at).whole.1

    money-holds : (n : ℕ) → n ≤ length given → sum (standing first ps n) ≡ money_after (sum first) n
    money-holds zero within = money-start (sum first)
    money-holds (suc n) within =
        let s = step n (omega (arith, within)) in
        let was : sum s.posting.before ≡ money_after (sum first) n = ap sum s.begins ∙ money-holds n (omega (arith, within)) in
        ap (λ o. sum (left_by first o)) s.at ∙ money-next (sum first) n s.posting.before s.posting.after was (posting-at None ps are n s.posting s.at).keeps

    pub throughout : HoldsThroughout b given
    throughout n homes within after =
        let same : standing first ps n ≡ balances_in homes = all-balances homes (standing first ps n) (whole n within)
        (λ account lt. sym (account-holds account lt n within (homes account) (after account))) in
        ap sum (sym same) ∙ money-holds n within

-- ---- what a crash leaves

recovered-as : (own : Superblock) (next size count : ℕ) (first : ℕ → List ℕ) (hs : List Stopped) (c : Image) → IsRecoveredTo own next size count first hs c → (home : ℕ) → StandsBy (word hs home) (first home) (recovered_home size count c home)
recovered-as own next size count first hs c is home =
    subst (λ r. StandsBy (word hs home) (first home) (home_by r (recovered size count c) home)) (sym is.taken) (is.each home)

-- some first handles
pub first-recover : (b : Begun) (given : List Stopped) (bounds : List ℕ) (least : ℕ) (c : Image) → HoldsThroughout b given → HasFirst b given bounds least c → RecoversMoney b given c
first-recover b given bounds least c through has = record {
  handles = has.many;
  within = has.to;
  holds = through has.many (recovered_home b.size b.count c) has.to (recovered-as _ _ b.size b.count b.homes (take has.many given) c has.recovered);
}

-- none, while the journal is opened
pub entry-recovers : (b : Begun) (given : List Stopped) (base c : Image) → ((home : ℕ) → b.homes home ≡ recovered_home b.size b.count base home) → HoldsThroughout b given → FollowsEntry b.size b.count base c → RecoversMoney b given c
entry-recovers b given base c homes through entry =
    let each : (home : ℕ) → recovered_home b.size b.count c home ≡ recovered_home b.size b.count base home = λ home. ⊎_elim
    (λ is. recovered-as _ _ b.size b.count (recovered_home b.size b.count base) [] c is home)
    (λ is. recovered-as _ _ b.size b.count (recovered_home b.size b.count base) [] c is home)
    (opening-recovered b.size b.count base c entry) in
    record {
      handles = 0;
      within = omega arith;
      holds = through 0 (recovered_home b.size b.count c) (omega arith) (λ home. each home ∙ sym (homes home));
    }
