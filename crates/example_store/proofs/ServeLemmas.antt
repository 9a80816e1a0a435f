-- What a worker has done of its commands, one command after another.
use Rattle.std.proofs.Common.{◌≡◌, ℕ, zero, suc, ◌+◌, ◌<◌, ◌≤◌, Bool, true, false, leb, leb-true, leb-false, All, List, [], ◌∷◌, ◌++◌, length, get_or, take, Result, Ok, Err, OnOk, refl, sym, ap, ap₂, subst, ◌∙◌, arith, length-append}
use Rattle.std.proofs.Math.ListN.{length-map}
use Rattle.std.proofs.lemmas.List.{length_push, map-append, take_all, take_at, take-append-le}
use Rattle.std.proofs.lemmas.List.Elements.{All-get_or, All-take}
use Rattle.jb_journal.specs.Names.{Begun, StandsIn, Stopped}
use Rattle.jb_journal.specs.Notes.{AreInNotes, IsInNotes, Known, KnowsMore, Stop}
use Rattle.example_store.specs.Commands.{HasKey, after_commands, changes_among, replies_to}
use Rattle.example_store.specs.Handles.{IsAlone, IsObeyed, LeavesMap, MayChange, RiseFrom, as_stopped}
use Rattle.example_store.specs.Maps.{Mapping, map_of}
use Rattle.example_store.specs.Serves.{Serves}
use Rattle.example_store.specs.Tables.{value_at}
use Rattle.example_store.specs.declared.command.Command.{Command}
use Rattle.example_store.specs.declared.command.Reply.{Reply}
use Rattle.example_store.specs.declared.failed.Failed.{Failed}
use Rattle.example_store.proofs.CommandLemmas.{after-made, after-more, changes-more, changes-rise, one-change, replies-more}
use Rattle.example_store.proofs.HandleLemmas.{alone-before, noted-all, rise-more, stopped_as, within-log}

module _ (commands : List Command) (b : Begun) where
  -- the map that the homes said at the start
  abbrev pub started : Mapping
  started = map_of b.homes

  -- the first handles, however many, make of it what as many changes make of it
  abbrev pub LeaveFirst : List Stop → Type 0
  LeaveFirst stops = (many : ℕ) → many ≤ length stops → LeavesMap b.homes (after_commands started (take many (changes_among commands))) (take many (as_stopped stops))

  -- the first so many commands were obeyed, with these replies
  pub record Going (sure : Type 0) (stops : List Stop) (known : Known) (replies : List Reply) (i : ℕ) : Type 0 where
    pub number : length replies ≡ i
    pub stand : All (StandsIn known.log) stops
    pub rise : RiseFrom 0 stops
    pub noted : AreInNotes known.notes stops
    pub each : length stops ≡ length (changes_among (take i commands))
    pub told : IsAlone b sure known stops → All HasKey commands → replies ≡ replies_to started (take i commands)
    pub leaves : IsAlone b sure known stops → All HasKey commands → LeaveFirst stops

  none-leaves : LeaveFirst []
  none-leaves zero few key some found stands = ap (λ text. value_at text key) stands
  none-leaves (suc many) few key some found stands = absurd (omega (arith, few))

  -- before the first of them
  pub going-none : (sure : Type 0) (stops : List Stop) (known : Known) (replies : List Reply) → stops ≡ [] → replies ≡ [] → Going sure stops known replies 0
  going-none sure stops known replies no_stops no_replies =
      subst (λ (x : List Stop × List Reply). Going sure x.0 known x.1 0) (λ i. (sym no_stops i, sym no_replies i))
      (record {
        number = refl;
        stand = λ k d lt. absurd (omega (arith, lt));
        rise = tt;
        noted = λ k d lt. absurd (omega (arith, lt));
        each = refl;
        told = λ alone keys. refl;
        leaves = λ alone keys. none-leaves;
      })

  -- ---- one command more

  module _ (sure : Type 0) (old : List Stop) (before : Known) (replies : List Reply) (going : Going sure old before replies (length replies)) (within : length replies < length commands) (command : Command) (is : command ≡ get_or commands (length replies) command)
      (more_sure : Type 0) (after : Known) (new : List Stop) (knows : KnowsMore before after) (held : more_sure → sure) (may : MayChange b more_sure command before after old new) (stand : All (StandsIn after.log) new) where
    abbrev n : ℕ
    n = length replies

    abbrev so_far : Mapping
    so_far = after_commands started (take n commands)

    was-alone : IsAlone b more_sure after new → IsAlone b sure before old
    was-alone alone = alone-before b sure more_sure before after old new may.more may.stopped knows going.stand may.later held alone

    has-key : All HasKey commands → HasKey command
    has-key keys = subst HasKey (sym is) (All-get_or HasKey commands n command within keys)

    one-more : length (changes_among (take (n + 1) commands)) ≡ length (changes_among (take n commands)) + length (changes_among (command ∷ []))
    one-more = changes-more commands n command within is

    long : length new ≡ length old + length may.more
    long = ap length may.stopped ∙ length-append old may.more

    rises : RiseFrom 0 new
    rises = subst (RiseFrom 0) (sym may.stopped) (rise-more 0 (length before.log) old may.more going.rise (within-log before.log old going.stand) (omega arith) may.later)

    -- what the handles so far have made of the map
    now-leaves : LeaveFirst old → LeavesMap b.homes so_far (as_stopped old)
    now-leaves leaves =
        subst (λ (x : Mapping × List Stopped). LeavesMap b.homes x.0 x.1)
        (λ i. (after-made commands n started (length old) going.each i, take_all (length old) (as_stopped old) (let same = length-map old stopped_as in omega (arith, same)) i))
        (leaves (length old) (omega arith))

    more-leaves : IsAlone b more_sure after new → All HasKey commands → LeaveFirst old → LeaveFirst new
    more-leaves alone keys leaves many few = go (leb many (length old)) refl
      where
        as-more : as_stopped new ≡ as_stopped old ++ as_stopped may.more
        as-more = ap as_stopped may.stopped ∙ map-append stopped_as old may.more

        go : (t : Bool) → leb many (length old) ≡ t → LeavesMap b.homes (after_commands started (take many (changes_among commands))) (take many (as_stopped new))
        go true e =
            let le = leb-true many (length old) e in
            let same = length-map old stopped_as in
            subst (LeavesMap b.homes (after_commands started (take many (changes_among commands))))
            (sym (ap (take many) as-more ∙ take-append-le many (as_stopped old) (as_stopped may.more) (omega (arith, le, same))))
            (leaves many le)
        go false e =
            let gt = leb-false many (length old) e in
            let one = one-change command in
            let at_most = may.few in
            let whole : length may.more ≡ length (changes_among (command ∷ [])) = omega (arith, gt, few, long, one, at_most) in
            let all : many ≡ length (changes_among (take (n + 1) commands)) = let each = going.each in omega (arith, gt, few, long, one, at_most, one-more, each) in
            subst (λ (x : Mapping × List Stopped). LeavesMap b.homes x.0 x.1)
            (λ i. (
              sym (after-made commands (n + 1) started many all ∙ after-more commands n command within is started) i,
              sym (take_all many (as_stopped new) (let same = length-map new stopped_as in omega (arith, same, gt, long, one, at_most))) i,
            ))
            (may.leaves alone (has-key keys) whole so_far (now-leaves leaves))

    -- it fails
    pub going-fails : (ended : Result (Unit {0}) Failed) → OnOk ended (length replies ≡ length commands) → Serves commands b more_sure new after replies ended
    going-fails ended whole = record {
      within = omega (arith, within);
      whole = whole;
      stand = stand;
      rise = rises;
      noted = subst (AreInNotes after.notes) (sym (ap (take (length (changes_among (take n commands)))) may.stopped ∙ take_at old may.more (length (changes_among (take n commands))) going.each))
          (noted-all before after knows old going.noted);
      each = (let each = going.each in omega (arith, long, each));
      few = (let each = going.each in let at_most = may.few in omega (arith, long, each, at_most, one-more));
      told = λ alone keys. going.told (was-alone alone) keys;
      leaves = λ alone keys. more-leaves alone keys (going.leaves (was-alone alone) keys);
    }

    -- it is replied to
    pub going-more : (reply : Reply) → (obeyed : IsObeyed b more_sure command before after old new reply) → Going more_sure new after (replies ++ reply ∷ []) (n + 1)
    going-more reply obeyed = record {
      number = length_push replies reply;
      stand = stand;
      rise = rises;
      noted = obeyed.noted;
      each = (let whole = obeyed.whole in let added = ap length obeyed.made.stopped ∙ length-append old obeyed.made.more in let each = going.each in omega (arith, added, each, whole, one-more));
      told = λ alone keys.
          ap₂ (λ rs r. rs ++ r ∷ []) (going.told (was-alone alone) keys)
          (obeyed.told alone (has-key keys) so_far (now-leaves (going.leaves (was-alone alone) keys)))
          ∙ sym (replies-more commands n command within is started);
      leaves = λ alone keys. more-leaves alone keys (going.leaves (was-alone alone) keys);
    }

  -- the worker ends after some commands
  pub going-ends : (sure : Type 0) (stops : List Stop) (known : Known) (replies : List Reply) (i : ℕ) → Going sure stops known replies i → i ≤ length commands → (ended : Result (Unit {0}) Failed) → OnOk ended (i ≡ length commands)
      → Serves commands b sure stops known replies ended
  going-ends sure stops known replies i going few ended whole = by (subst (Going sure stops known replies) (sym going.number) going)
    where
      number : length replies ≡ i
      number = going.number

      all : (r : Result (Unit {0}) Failed) → OnOk r (i ≡ length commands) → OnOk r (length replies ≡ length commands)
      all (Ok unit) end = number ∙ end
      all (Err failed) end = tt

      by : Going sure stops known replies (length replies) → Serves commands b sure stops known replies ended
      by g = record {
        within = omega (arith, number, few);
        whole = all ended whole;
        stand = g.stand;
        rise = g.rise;
        noted = All-take (λ (s : Stop). (number : ℕ) × IsInNotes known.notes s.0 number) (length (changes_among (take (length replies) commands))) stops g.noted;
        each = (let each = g.each in omega (arith, each));
        few = (let each = g.each in let rise = changes-rise commands (length replies) in
            let same : suc (length replies) ≡ length replies + 1 = omega arith in
            let more : length (changes_among (take (suc (length replies)) commands)) ≡ length (changes_among (take (length replies + 1) commands)) = ap (λ k. length (changes_among (take k commands))) same in
            omega (arith, each, rise, more));
        told = g.told;
        leaves = g.leaves;
      }

-- the same of so many commands as there are replies
pub at-replies : (commands : List Command) (b : Begun) (sure : Type 0) (stops : List Stop) (known : Known) (replies : List Reply) (i : ℕ) → Going commands b sure stops known replies i → Going commands b sure stops known replies (length replies)
at-replies commands b sure stops known replies i going = subst (Going commands b sure stops known replies) (sym going.number) going

module _ (commands : List Command) (b : Begun) (sure : Type 0) (old : List Stop) (before : Known) (replies : List Reply) (i : ℕ) (going : Going commands b sure old before replies i) (within : i < length commands) (command : Command) (is : command ≡ get_or commands i command)
    (more_sure : Type 0) (after : Known) (new : List Stop) (knows : KnowsMore before after) (held : more_sure → sure) (stand : All (StandsIn after.log) new) where
  inside : length replies < length commands
  inside = let number = going.number in omega (arith, number, within)

  is-there : command ≡ get_or commands (length replies) command
  is-there = is ∙ ap (λ k. get_or commands k command) (sym going.number)

  -- a command more is replied to
  pub next-going : (reply : Reply) → IsObeyed b more_sure command before after old new reply → (more : List Reply) → more ≡ replies ++ reply ∷ [] → Going commands b more_sure new after more (i + 1)
  next-going reply obeyed more is_more =
      subst (λ (x : List Reply × ℕ). Going commands b more_sure new after x.0 (x.1 + 1)) (λ j. (sym is_more j, going.number j))
      (going-more commands b sure old before replies (at-replies commands b sure old before replies i going) inside command is-there more_sure after new knows held obeyed.made stand reply obeyed)

  -- or the worker fails
  pub next-fails : MayChange b more_sure command before after old new → (ended : Result (Unit {0}) Failed) → OnOk ended (length replies ≡ length commands) → Serves commands b more_sure new after replies ended
  next-fails may ended whole = going-fails commands b sure old before replies (at-replies commands b sure old before replies i going) inside command is-there more_sure after new knows held may stand ended whole
