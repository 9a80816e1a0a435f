-- Postings: what the handles of a run make of the accounts, in the order of their tickets.
use Rattle.std.specs.Prelude.{◌≡◌, ◌⊎◌, ℕ, ◌<◌, ◌≤◌, List, [], ◌∷◌, ◌++◌, length, sum, Option, Some, None, Result, Ok}
use Rattle.std.specs.Prelude.{Err}
use Rattle.jb_journal.specs.Names.{Begun, StandsIn, WordMap}
use Rattle.jb_journal.specs.Notes.{Known, Stop}
use Rattle.jb_journal.specs.declared.journal_fault.JournalFault.{JournalFault}
use Rattle.example_accounts.specs.Accounts.{LeavesBalances, balances_in, opening_balances}
use Rattle.example_accounts.specs.declared.posting.Posting.{Posting}

-- what a handle may make of the accounts: it opens all of them where they hold nothing; otherwise they hold together
-- what they held
abbrev pub OpensOrMoves : List ℕ → List ℕ → Type 0
OpensOrMoves before after =
    ((sum before ≡ 0) × (after ≡ opening_balances)) ⊎ ((0 < sum before) × (sum after ≡ sum before))

-- a posting is of each account
pub record IsPosting (p : Posting) : Type 0 where
  pub whole : (length p.before ≡ 100) × (length p.after ≡ 100)
  pub keeps : OpensOrMoves p.before p.after

-- a posting comes after the last one: its handle has a higher ticket, and it begins with what that one left
abbrev pub ComesAfter : Option Posting → Posting → Type 0
ComesAfter None p = Unit {0}
ComesAfter (Some last) p = (last.ticket < p.ticket) × (p.before ≡ last.after)

-- postings that come after this one, each after the one before
abbrev pub ArePostings : Option Posting → List Posting → Type 0
ArePostings last [] = Unit {0}
ArePostings last (p ∷ ps) = IsPosting p × ComesAfter last p × ArePostings (Some p) ps

-- the last of some postings, after this one
abbrev pub last_posting : Option Posting → List Posting → Option Posting
last_posting last [] = last
last_posting last (p ∷ ps) = last_posting (Some p) ps

-- What the accounts hold for a client that knows this: what the last posting left, whose handle it knows. Where nothing
-- is posted yet, and it knows of no handle, what they held at the start, if the disk is sure to have been honest
abbrev pub FindsBalances : Begun → Type 0 → Known → Option Posting → List ℕ → Type 0
FindsBalances b sure known None balances = known.log ≡ [] → b.is_known → sure → balances ≡ balances_in b.homes
FindsBalances b sure known (Some last) balances = (last.ticket < length known.log) × (balances ≡ last.after)

-- one handle more has stopped, with a ticket above those that were known, which leaves the accounts so
pub record StopsOne (known : Known) (before after : List ℕ) (old new : List Stop) (ticket : ℕ) : Type 0 where
  pub words : WordMap
  pub stopped : new ≡ old ++ (ticket, words) ∷ []
  pub higher : length known.log ≤ ticket
  pub leaves : LeavesBalances before after words

-- the handle stopped, and has this ticket; or none has
abbrev pub StopsOrNot : Known → List ℕ → List ℕ → List Stop → List Stop → Result ℕ JournalFault → Type 0
StopsOrNot known before after old new (Ok ticket) = StopsOne known before after old new ticket
StopsOrNot known before after old new (Err fault) = new ≡ old

-- A handle that a client has stopped is posted: a posting has its ticket, and its words leave the accounts as that
-- says. That of the first handle of all begins with what the accounts held at the start, if the disk is sure to have
-- been honest
pub record IsPosted (b : Begun) (sure : Type 0) (postings : List Posting) (stop : Stop) : Type 0 where
  pub number : ℕ
  pub posting : Posting
  pub stands : StandsIn postings (number, posting)
  pub ticket : posting.ticket ≡ stop.0
  pub leaves : LeavesBalances posting.before posting.after stop.1
  pub first : stop.0 ≡ 0 → b.is_known → sure → posting.before ≡ balances_in b.homes
