-- The handles of one client: which tickets they have where they are all, what a read of a home shows of them, and what
-- they make of the map that the homes say.
use Rattle.std.proofs.Common.{◌≡◌, ◌≢◌, ℕ, zero, suc, ◌+◌, ◌%◌, ◌<◌, ◌≤◌, Bool, true, false, nat_eq, cond, All, List, [], ◌∷◌, ◌++◌, length, get_or, Option, Some, None, refl, sym, ap, subst, ◌∙◌, arith, append-nil, length-append}
use Rattle.std.specs.Cmp.{nat_cmp_total}
use Rattle.std.specs.FinMap as map
use Rattle.std.specs.Option.{option_or}
use Rattle.std.specs.Ordering.{eq_by_cmp, nat_cmp}
use Rattle.std.proofs.Math.ListN.{length-map}
use Rattle.std.proofs.lemmas.Bool.{eq-eqb, eqb-true, false≢true}
use Rattle.std.proofs.lemmas.List.{get_or_at, map-append, map_push}
use Rattle.std.proofs.lemmas.List.Elements.{All-head, All-map, All-push, All-tail}
use Rattle.std.proofs.lemmas.Option.{slice_get_within}
use Rattle.jb_handle.proofs.RisingHomes.{tied-cond}
use Rattle.jb_handle.proofs.Tickets.{tickets-first}
use Rattle.jb_handle.proofs.TouchedHomes.{word-append}
use Rattle.jb_book.proofs.ShownTickets.{same-out, ticket-at}
use Rattle.jb_journal.proofs.ClientNotes.{first-trans, noted-on, stands-on}
use Rattle.jb_journal.specs.Client.{one_block}
use Rattle.jb_journal.specs.Names.{Begun, Copy, IsInHistory, StandsBy, StandsIn, Stopped, TicketsFrom, WordMap, word}
use Rattle.jb_journal.specs.Notes.{AreInNotes, IsInNotes, Known, KnowsMore, ReadsAs, Stop}
use Rattle.example_store.specs.Commands.{HasKey, after_command, changes_among, reply_to}
use Rattle.example_store.specs.Handles.{AreAll, ChangesKey, IsAlone, IsObeyed, LeavesMap, MayChange, RiseFrom, WasRead, as_stopped}
use Rattle.example_store.specs.Maps.{Mapping, with_value}
use Rattle.example_store.specs.Tables.{value_at}
use Rattle.example_store.specs.declared.command.Command.{Command}
use Rattle.example_store.specs.declared.command.Command.TheVariants.{Get}
use Rattle.example_store.specs.declared.command.Reply.{Reply}
use Rattle.example_store.specs.declared.command.Reply.TheVariants.{Found}
use Rattle.example_store.proofs.CommandLemmas.{other-value, own-value}

-- ---- what is known

abbrev pub stopped_as : Stop → Stopped
stopped_as stop = record { ticket = stop.0; words = stop.1 }

pub longer : (before after : Known) → KnowsMore before after → length before.log ≤ length after.log
longer before after more = let whole : length before.log + length more.0.0 ≡ length after.log = sym (length-append before.log more.0.0) ∙ ap length more.0.1 in omega (arith, whole)

pub knows-then : (one two three : Known) → KnowsMore one two → KnowsMore two three → KnowsMore one three
knows-then one two three p q = (first-trans one.log two.log three.log p.0 q.0, first-trans one.notes two.notes three.notes p.1 q.1)

-- what is known stays known
pub noted-all : (before after : Known) → KnowsMore before after → (stops : List Stop) → AreInNotes before.notes stops → AreInNotes after.notes stops
noted-all before after more stops each k d lt = let one = each k d lt in (one.0, noted-on before.notes after.notes (get_or stops k d).0 one.0 more.1 one.1)

pub stand-all : (before after : Known) → KnowsMore before after → (stops : List Stop) → All (StandsIn before.log) stops → All (StandsIn after.log) stops
stand-all before after more stops each k d lt = stands-on before.log after.log more.0 (get_or stops k d) (each k d lt)

pub within-log : (log : List WordMap) (stops : List Stop) → All (StandsIn log) stops → All (λ (s : Stop). s.0 < length log) stops
within-log log stops each k d lt = slice_get_within log (get_or stops k d).0 (get_or stops k d).1 (each k d lt)

-- the same of handles as a journal is given them
pub in-history : (log : List WordMap) (stops : List Stop) → All (StandsIn log) stops → All (IsInHistory log) (as_stopped stops)
in-history log stops each = All-map (IsInHistory log) stopped_as stops each

-- ---- tickets

pub ticket-is : (n : ℕ) (stops : List Stop) → TicketsFrom n (as_stopped stops) → (k : ℕ) (d : Stop) → k < length stops → (get_or stops k d).0 ≡ n + k
ticket-is n [] is k d lt = absurd (omega (arith, lt))
ticket-is n (s ∷ stops) is zero d lt = let first : s.0 ≡ n = is.0 in omega (arith, first)
ticket-is n (s ∷ stops) is (suc k) d lt = let rest = ticket-is (n + 1) stops is.1 k d (omega (arith, lt)) in omega (arith, rest)

-- handles with the tickets from 0 on that stand in a history are no more than it has
pub few-stops : (log : List WordMap) (stops : List Stop) → TicketsFrom 0 (as_stopped stops) → All (StandsIn log) stops → length stops ≤ length log
few-stops log [] tickets each = omega arith
few-stops log (s ∷ stops) tickets each =
    let last : length stops < length (s ∷ stops) = omega arith in
    let at = ticket-is 0 (s ∷ stops) tickets (length stops) s last in
    let in_log = within-log log (s ∷ stops) each (length stops) s last in
    omega (arith, at, in_log)

pub few-given : (log : List WordMap) (given : List Stopped) → TicketsFrom 0 given → All (IsInHistory log) given → length given ≤ length log
few-given log [] tickets each = omega arith
few-given log (h ∷ given) tickets each =
    let last : length given < length (h ∷ given) = omega arith in
    let at = ticket-at 0 (h ∷ given) tickets (length given) h last in
    let in_log = slice_get_within log (get_or (h ∷ given) (length given) h).ticket (get_or (h ∷ given) (length given) h).words (each (length given) h last) in
    omega (arith, at, in_log)

rise-lower : (n least : ℕ) (stops : List Stop) → n ≤ least → RiseFrom least stops → RiseFrom n stops
rise-lower n least [] le rise = tt
rise-lower n least (s ∷ stops) le rise = (let first = rise.0 in omega (arith, le, first), rise.1)

-- further handles rise behind those that are known
pub rise-more : (n past : ℕ) (stops more : List Stop) → RiseFrom n stops → All (λ (s : Stop). s.0 < past) stops → n ≤ past → RiseFrom past more → RiseFrom n (stops ++ more)
rise-more n past [] more rise each le later = rise-lower n past more le later
rise-more n past (s ∷ stops) more rise each le later =
    let first = All-head (λ (t : Stop). t.0 < past) s stops each in
    (rise.0, rise-more (suc s.0) past stops more rise.1 (All-tail (λ (t : Stop). t.0 < past) s stops each) (omega (arith, first)) later)

-- tickets that rise need as much room
pub rise-room : (n past : ℕ) (stops : List Stop) → RiseFrom n stops → All (λ (s : Stop). s.0 < past) stops → n ≤ past → n + length stops ≤ past
rise-room n past [] rise each le = omega (arith, le)
rise-room n past (s ∷ stops) rise each le =
    let first = All-head (λ (t : Stop). t.0 < past) s stops each in
    let rest = rise-room (suc s.0) past stops rise.1 (All-tail (λ (t : Stop). t.0 < past) s stops each) (omega (arith, first)) in
    let low = rise.0 in
    omega (arith, rest, low)

-- where there is no more room than that, they are the tickets from the first on
pub rise-tickets : (n past : ℕ) (stops : List Stop) → RiseFrom n stops → All (λ (s : Stop). s.0 < past) stops → past ≤ n + length stops → TicketsFrom n (as_stopped stops)
rise-tickets n past [] rise each le = tt
rise-tickets n past (s ∷ stops) rise each le =
    let first = All-head (λ (t : Stop). t.0 < past) s stops each in
    let tail = All-tail (λ (t : Stop). t.0 < past) s stops each in
    let rest = rise-room (suc s.0) past stops rise.1 tail (omega (arith, first)) in
    let low = rise.0 in
    let is : s.0 ≡ n = omega (arith, rest, low, le) in
    let next : suc s.0 ≡ n + 1 = omega (arith, is) in
    (is, rise-tickets (n + 1) past stops (subst (λ k. RiseFrom k stops) next rise.1) tail (omega (arith, le)))

-- ---- a client that is alone

-- where the handles after a step are all that are known then, those before it are all that were known before
pub all-before : (before after : Known) (old new more : List Stop) → new ≡ old ++ more → KnowsMore before after → All (StandsIn before.log) old → RiseFrom (length before.log) more → AreAll after new → AreAll before old
all-before before after old new more is knows stand later all =
    let whole : AreAll after (old ++ more) = subst (AreAll after) is all in
    let tickets : TicketsFrom 0 (as_stopped old) = tickets-first 0 (as_stopped old) (as_stopped more) (subst (TicketsFrom 0) (map-append stopped_as old more) whole.tickets) in
    let low = few-stops before.log old tickets stand in
    let high = go more later whole in
    record { tickets = tickets; number = omega (arith, low, high) }
  where
    go : (rest : List Stop) → RiseFrom (length before.log) rest → AreAll after (old ++ rest) → length before.log ≤ length old
    go [] rise all = let long = longer before after knows in let number = all.number in let same = ap length (append-nil old) in omega (arith, long, number, same)
    go (s ∷ rest) rise all =
        let long = length-append old (s ∷ rest) in
        let at = ticket-is 0 (old ++ s ∷ rest) all.tickets (length old) s (omega (arith, long)) in
        let is_s : (get_or (old ++ s ∷ rest) (length old) s).0 ≡ s.0 = ap (λ (t : Stop). t.0) (get_or_at old s rest s (length old) refl) in
        let first = rise.0 in
        omega (arith, at, is_s, first)

pub alone-before : (b : Begun) (sure more_sure : Type 0) (before after : Known) (old new more : List Stop) → new ≡ old ++ more → KnowsMore before after → All (StandsIn before.log) old → RiseFrom (length before.log) more → (more_sure → sure)
    → IsAlone b more_sure after new → IsAlone b sure before old
alone-before b sure more_sure before after old new more is knows stand later held alone =
    (all-before before after old new more is knows stand later alone.0, alone.1, held alone.2)

-- ---- what a read shows

module _ (b : Begun) (sure : Type 0) (before after : Known) (home : ℕ) (found : List ℕ) (read : ReadsAs b sure before after home found) (stops : List Stop) (stand : All (StandsIn after.log) stops) (noted : AreInNotes before.notes stops) (all : AreAll after stops) where
  sees-all : length stops ≤ length read.given
  sees-all = go stops all.tickets noted
    where
      go : (l : List Stop) → TicketsFrom 0 (as_stopped l) → AreInNotes before.notes l → length l ≤ length read.given
      go [] tickets each = omega arith
      go (s ∷ l) tickets each =
          let last : length l < length (s ∷ l) = omega arith in
          let at = ticket-is 0 (s ∷ l) tickets (length l) s last in
          let one = each (length l) s last in
          let seen = read.sees (get_or (s ∷ l) (length l) s).0 one.0 one.1 in
          omega (arith, at, seen)

  -- a read of a client that is alone is of its own handles
  pub read-own : read.given ≡ as_stopped stops
  read-own =
      let low = sees-all in
      let high = few-given after.log read.given read.tickets read.are in
      let number = all.number in
      let long = length-map stops stopped_as in
      same-out after.log 0 read.given (as_stopped stops) read.tickets all.tickets read.are (in-history after.log stops stand) (omega (arith, low, high, number, long))

  -- so what was read says what these make of the map
  pub read-says : b.is_known → sure → (m : Mapping) → LeavesMap b.homes m (as_stopped stops) → (key : ℕ) → key ≢ 0 → home ≡ key % 32 → value_at found key ≡ m key
  read-says known held m leaves key some at =
      leaves key some found
      (subst (λ (x : List Stopped × ℕ). StandsBy (word x.0 x.1) (b.homes x.1) found) (λ i. (read-own i, at i)) (read.stands known held))

-- ---- what a handle of one home makes of the map

-- the word of such a handle
one-word : (home : ℕ) (bytes : List ℕ) (q : ℕ) → map.get (one_block home bytes) q ≡ cond (nat_eq q home) (Some (Copy bytes)) None
one-word home bytes q =
    map.get-insert nat_cmp_total map.empty home (Copy bytes) q
    ∙ ap (cond (eq_by_cmp nat_cmp q home) (Some (Copy bytes))) (map.get-empty nat_cmp q)
    ∙ tied-cond q home (Some (Copy bytes)) None

module _ (homes : ℕ → List ℕ) (m : Mapping) (stops : List Stop) (leaves : LeavesMap homes m (as_stopped stops)) (key : ℕ) (value : Option ℕ) (ticket : ℕ) (bytes : List ℕ) (own : value_at bytes key ≡ value)
    (others : (other : ℕ) → other ≢ 0 → other ≢ key → key % 32 ≡ other % 32 → value_at bytes other ≡ m other) where
  now-says : (other : ℕ) → other ≢ 0 → key % 32 ≡ other % 32 → value_at bytes other ≡ with_value m key value other
  now-says other some at = go (nat_eq other key) refl
    where
      go : (t : Bool) → nat_eq other key ≡ t → value_at bytes other ≡ with_value m key value other
      go true e =
          let is : other ≡ key = eqb-true other key e in
          ap (value_at bytes) is ∙ own ∙ sym (own-value m key value) ∙ ap (with_value m key value) (sym is)
      go false e =
          let differ : other ≢ key = λ is. false≢true (sym e ∙ eq-eqb other key is) in
          others other some differ at ∙ sym (other-value m key other value differ)

  pub put-leaves : LeavesMap homes (with_value m key value) (as_stopped (stops ++ (ticket, one_block (key % 32) bytes) ∷ []))
  put-leaves other some found stands = go (nat_eq (other % 32) (key % 32)) refl (subst (λ w. StandsBy w (homes (other % 32)) found) last-word stands)
    where
      last-word : word (as_stopped (stops ++ (ticket, one_block (key % 32) bytes) ∷ [])) (other % 32) ≡ option_or (cond (nat_eq (other % 32) (key % 32)) (Some (Copy bytes)) None) (word (as_stopped stops) (other % 32))
      last-word =
          ap (λ l. word l (other % 32)) (map_push stopped_as stops (ticket, one_block (key % 32) bytes))
          ∙ word-append (as_stopped stops) (stopped_as (ticket, one_block (key % 32) bytes)) (other % 32)
          ∙ ap (λ w. option_or w (word (as_stopped stops) (other % 32))) (one-word (key % 32) bytes (other % 32))

      go : (t : Bool) → nat_eq (other % 32) (key % 32) ≡ t → StandsBy (option_or (cond t (Some (Copy bytes)) None) (word (as_stopped stops) (other % 32))) (homes (other % 32)) found → value_at found other ≡ with_value m key value other
      go true e stands = ap (λ text. value_at text other) stands ∙ now-says other some (sym (eqb-true (other % 32) (key % 32) e))
      go false e stands =
          let differ : other ≢ key = λ is. false≢true (sym e ∙ eq-eqb (other % 32) (key % 32) (ap (λ k. k % 32) is)) in
          leaves other some found stands ∙ sym (other-value m key other value differ)

-- ---- what a command does

module _ (b : Begun) (sure : Type 0) (before after : Known) (old new : List Stop) (stand : All (StandsIn before.log) old) (noted : AreInNotes before.notes old) where
  module _ (key : ℕ) (value : Option ℕ) (change : ChangesKey b sure key value before after old new) where
    abbrev stop : Stop
    stop = (change.put.ticket, one_block (key % 32) change.bytes)

    stop-later : RiseFrom (length change.seen.log) (stop ∷ [])
    stop-later = (change.put.later, tt)

    -- a change that was made makes of the map what its command does
    pub change-leaves : IsAlone b sure after new → key ≢ 0 → (m : Mapping) → LeavesMap b.homes m (as_stopped old) → LeavesMap b.homes (with_value m key value) (as_stopped new)
    change-leaves alone some m leaves =
        let stood = stand-all before change.seen change.knew old stand in
        let all = all-before change.seen after old new (stop ∷ []) change.put.stopped change.knows stood stop-later alone.0 in
        let was : (other : ℕ) → other ≢ 0 → key % 32 ≡ other % 32 → value_at change.was other ≡ m other =
        λ other some at. read-says b sure before change.seen (key % 32) change.was change.read old stood noted all alone.1 alone.2 m leaves other some at in
        subst (λ l. LeavesMap b.homes (with_value m key value) (as_stopped l)) (sym change.put.stopped)
        (put-leaves b.homes m old leaves key value change.put.ticket change.bytes (change.changes.own some)
        (λ other exists differ at. change.changes.others other exists differ ∙ was other exists at))

    module _ (command : Command) (makes : (m : Mapping) → after_command m command ≡ with_value m key value) (named : HasKey command → key ≢ 0) (one : length (changes_among (command ∷ [])) ≡ 1) where
      abbrev pub change-may : MayChange b sure command before after old new
      change-may = record {
        more = stop ∷ [];
        stopped = change.put.stopped;
        later = (let first = longer before change.seen change.knew in let second = change.put.later in omega (arith, first, second), tt);
        few = omega (arith, one);
        leaves = λ alone has whole m leaves. subst (λ n. LeavesMap b.homes n (as_stopped new)) (sym (makes m)) (change-leaves alone (named has) m leaves);
      }

      pub change-obeyed : (number : ℕ) → IsInNotes after.notes change.put.ticket number → (reply : Reply) → ((m : Mapping) → reply ≡ reply_to m command) → IsObeyed b sure command before after old new reply
      change-obeyed number is_noted reply told = record {
        made = change-may;
        whole = sym one;
        noted = subst (AreInNotes after.notes) (sym change.put.stopped)
            (All-push (λ (s : Stop). (number : ℕ) × IsInNotes after.notes s.0 number) old stop
            (noted-all before after knows old noted) (number, is_noted));
        told = λ alone has m leaves. told m;
      }
        where
          knows : KnowsMore before after
          knows = knows-then before change.seen after change.knew change.knows

  -- where no handle stopped, none of the changes of the command was made
  abbrev pub none-may : new ≡ old → (command : Command) → ((m : Mapping) → length (changes_among (command ∷ [])) ≡ 0 → after_command m command ≡ m) → MayChange b sure command before after old new
  none-may same command keeps = record {
    more = [];
    stopped = same ∙ sym (append-nil old);
    later = tt;
    few = omega arith;
    leaves = λ alone has whole m leaves. subst (λ (x : Mapping × List Stop). LeavesMap b.homes x.0 (as_stopped x.1)) (λ i. (sym (keeps m (sym whole)) i, sym same i)) leaves;
  }

  -- a get is replied what the map has, if its home was read
  pub get-obeyed : new ≡ old → KnowsMore before after → (key : ℕ) (value : Option ℕ) → WasRead b sure before after (key % 32) (λ bytes. value ≡ value_at bytes key) → IsObeyed b sure (Get key) before after old new (Found key value)
  get-obeyed same knows key value was = record {
    made = none-may same (Get key) (λ m none. refl);
    whole = refl;
    noted = subst (AreInNotes after.notes) (sym same) (noted-all before after knows old noted);
    told = λ alone some m leaves. (
        let stood = stand-all before after knows old stand in
        let all : AreAll after old = subst (AreAll after) same alone.0 in
        ap (Found key) (was.said ∙ read-says b sure before after (key % 32) was.bytes was.read old stood noted all alone.1 alone.2 m leaves key some refl));
  }
