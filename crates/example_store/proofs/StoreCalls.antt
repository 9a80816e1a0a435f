-- One call of a client after another: how it goes on, and what a change of a key is made of.
use Rattle.std.proofs.Common.{◌≡◌, ◌⊎◌, ℕ, ◌%◌, List, [], ◌∷◌, ◌++◌, Option, Result, Ok, Err, IsErr, ap, ◌∙◌}
use Rattle.std.proofs.lemmas.Bool.{false≢true}
use Rattle.jb_board.specs.declared.place.Place.{Ghosts as Places}
use Rattle.jb_book.specs.declared.origin.Origin.{Ghosts as OriginGhosts}
use Rattle.jb_journal.specs.Client.{ClientGoesOn, client_known, one_block}
use Rattle.jb_journal.specs.Names.{Begun, Ghosts}
use Rattle.jb_journal.specs.Notes.{Known, KnowsMore, ReadsAs, Stop}
use Rattle.jb_journal.specs.declared.client.Client.{Client}
use Rattle.example_store.specs.Handles.{ChangesKey, PutsBlock, StopsBlock, WasRead}
use Rattle.example_store.specs.Tables.{ChangesValue, slots_in, value_in}
use Rattle.example_store.specs.declared.table.Slot.{Slot}
use Rattle.example_store.proofs.HandleLemmas.{knows-then}

pub goes-then : {D C R H : Type 0} {Q : Ghosts D} {O : OriginGhosts H} {P : Places H} (one two three : Client D C R H Q O P) → ClientGoesOn one two → ClientGoesOn two three → ClientGoesOn one three
goes-then one two three p q = record {
  knows = knows-then (client_known one) (client_known two) (client_known three) p.knows q.knows;
  honest = λ held. p.honest (q.honest held);
  shape = q.shape ∙ p.shape;
  commits = q.commits ∙ p.commits;
}

-- a read says no less where more is sure
pub read-sure : (b : Begun) (sure more : Type 0) (before after : Known) (home : ℕ) (found : List ℕ) → (more → sure) → ReadsAs b sure before after home found → ReadsAs b more before after home found
read-sure b sure more before after home found so read = record {
  given = read.given;
  tickets = read.tickets;
  are = read.are;
  sees = read.sees;
  stands = λ known held. read.stands known (so held);
}

-- what is answered to a block after a fault
pub puts-err : {E : Type 0} (home : ℕ) (bytes : List ℕ) (before after : Known) (old new : List Stop) (r : Result (Unit {0}) E) → IsErr r → (new ≡ old) ⊎ StopsBlock home bytes before old new → PutsBlock home bytes before after old new r
puts-err home bytes before after old new (Ok unit) fails may = absurd (false≢true fails)
puts-err home bytes before after old new (Err fault) fails may = may

-- a home was read as a table, this was changed, and its block was put
abbrev pub changed-key : (b : Begun) (sure more : Type 0) (key : ℕ) (value : Option ℕ) (before seen after : Known) (old mid new : List Stop) (was now : List Slot) (bytes : List ℕ)
    → WasRead b sure before seen (key % 32) (λ text. was ≡ slots_in 64 text) → KnowsMore before seen → KnowsMore seen after → (more → sure) → mid ≡ old
    → ChangesValue key value (value_in was) (value_in now) → slots_in 64 bytes ≡ now → StopsBlock (key % 32) bytes seen mid new
    → ChangesKey b more key value before after old new
changed-key b sure more key value before seen after old mid new was now bytes read knew knows so same changes block put = record {
  seen = seen;
  knew = knew;
  knows = knows;
  was = read.bytes;
  read = read-sure b sure more before seen (key % 32) read.bytes so read.read;
  bytes = bytes;
  changes = record {
    own = λ some. ap (λ slots. value_in slots key) block ∙ changes.own some;
    others = λ other some differ. ap (λ slots. value_in slots other) block ∙ changes.others other some differ ∙ ap (λ slots. value_in slots other) read.said;
  };
  put = record {
    ticket = put.ticket;
    stopped = put.stopped ∙ ap (λ l. l ++ (put.ticket, one_block (key % 32) bytes) ∷ []) same;
    later = put.later;
  };
}
