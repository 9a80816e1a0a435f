use Rattle.std.proofs.Common.{◌≡◌, ℕ, ◌<◌, List, [], ◌∷◌, Option, Some, None, length, refl, ap, subst, ◌∙◌, ◌+◌, arith, Bool, true, false, if◌then◌else◌}
use Rattle.std.specs.FinMap as map
use Rattle.std.specs.Option.{option_or}
use Rattle.std.proofs.lemmas.Option.{same_Some}
use Rattle.jb_disk.specs.declared.disk.Disk.{Ghosts}
use Rattle.jb_disk.specs.Image.{block}
use Rattle.jb_handle.specs.Word.{WordMap}
use Rattle.jb_handle.specs.declared.shape.Shape.{Shape}
use Rattle.jb_handle.specs.declared.word.Word.{Word}
use Rattle.jb_handle.specs.declared.word.Word.TheVariants.{Copy}
use Rattle.jb_log.specs.Follows.{StandsBy}
use Rattle.jb_deck.specs.Deck.{OpenDeck}
use Rattle.jb_deck.specs.Done.{past_after}
use Rattle.jb_book.specs.AtHome.{EndsUsing}
use Rattle.jb_book.specs.Origin.{Begun}
use Rattle.proof_clients.specs.ExampleMarks.{first, second, third, entry, by_two_seats}
use Rattle.proof_clients.proofs.ExampleEnds.{inside}
use Rattle.proof_clients.proofs.ExampleIdle.{ends-idle}
use Rattle.proof_clients.proofs.ExampleRuns.{IsOfThree, three-left, written-at}
use Rattle.proof_clients.proofs.examples.runs.ends_using.Goals as goal

pub returns-clause-meets : goal.returns-clause-meets
returns-clause-meets g c d bounds are = record { marked = ends-idle bounds are g.D.Disk d; used = refl; home = λ none known. absurd known }

module _ {D : Type 0} (G : Ghosts D) (b : Begun) (shape : Shape) (disk : D) (known : List WordMap) (marks : List (OpenDeck D)) (used : Option ℕ) (is : EndsUsing G b by_two_seats 3 shape disk (entry 7 0 3 ∷ []) known marks used) where
  of-three : IsOfThree is.marked.ends.log
  of-three =
      let stand = is.marked.ends.stopped.stand in
      record {
        long = is.marked.ends.number;
        at_first = stand 0 (0, first) (omega arith);
        at_second = stand 2 (0, first) (omega arith);
        at_third = stand 1 (0, first) (omega arith);
      }

  all-given : length is.marked.ends.since.given ≡ 3
  all-given =
      let has = is.marked.ends.since.has in
      let log = is.marked.ends.log in
      let three : past_after 0 is.marked.ends.deck.trail ≡ 3 = ap (past_after 0) is.marked.ends.same_trail in
      let few : 3 < length is.marked.ends.since.given → ⊥ = λ more. (
      let fourth = inside b log is.marked.ends.since.given has.tickets has.stopped 3 more in
      omega (arith, fourth, is.marked.ends.number)) in
      omega (arith, few, has.settled, three)

  -- where the log is empty
  pub home-holds : used ≡ Some 0 → b.is_known → G.honest disk → (home : ℕ) (w : Option Word)
      → option_or (option_or (option_or None (map.get third home)) (map.get second home)) (map.get first home) ≡ w
      → StandsBy w (b.homes home) (block (G.newest disk) (b.own.maxlen + home))
  home-holds none known_start honest home w holds =
      let has = is.marked.ends.since.has in
      subst (λ o. StandsBy o (b.homes home) (block (G.newest disk) (b.own.maxlen + home)))
      (three-left b is.marked.ends.log is.marked.ends.since.given of-three has.tickets has.stopped all-given home ∙ holds)
      (is.home none known_start honest home)

more-used : (aborted : Bool) (used live : ℕ) → Some used ≡ (if aborted then None else Some live) → used ≡ live + 1 → ⊥
more-used true used live is more = absurd (cc)
more-used false used live is more = omega (arith, same_Some used live is, more)

pub returns-clause-not_used : goal.returns-clause-not_used
returns-clause-not_used g c shape disk known marks used is more = more-used (is.marked.ends.deck.aborted) used is.marked.ends.deck.log.live is.used more

words : (home : ℕ) (x y z : Option Word) → map.get first home ≡ x → map.get second home ≡ y → map.get third home ≡ z
    → option_or (option_or (option_or None (map.get third home)) (map.get second home)) (map.get first home) ≡ option_or (option_or (option_or None z) y) x
words home x y z is_x is_y is_z = (λ k. option_or (option_or (option_or None (is_z k)) (is_y k)) (is_x k))

pub returns-clause-not_home : goal.returns-clause-not_home
returns-clause-not_home g c shape disk known marks known_start honest apart is =
    apart (home-holds g.D.Disk g.H.Origin.begun shape disk known marks (Some 0) is refl known_start honest 1 (Some (Copy []))
    (words 1 (Some (Copy [])) None None (written-at 1 1) (written-at 2 1) (written-at 3 1)))

pub returns-clause-not_other_home : goal.returns-clause-not_other_home
returns-clause-not_other_home g c shape disk known marks known_start honest apart is =
    apart (home-holds g.D.Disk g.H.Origin.begun shape disk known marks (Some 0) is refl known_start honest 4 None
    (words 4 None None None (written-at 1 4) (written-at 2 4) (written-at 3 4)))
