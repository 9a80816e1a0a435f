use Rattle.std.proofs.Common.{◌≡◌, ℕ, ◌+◌, ◌<◌, ◌≤◌, List, [], ◌∷◌, Some, None, length, take, sym, ap, subst, ◌∙◌, arith}
use Rattle.std.proofs.Math.Seq.{take-length}
use Rattle.std.proofs.lemmas.Option.{slice_get_within}
use Rattle.std.specs.Option.{option_or}
use Rattle.std.specs.FinMap as map
use Rattle.jb_disk.specs.Image.{block}
use Rattle.jb_disk.specs.declared.disk.Disk.{Ghosts}
use Rattle.jb_super.specs.Superblock.{Superblock}
use Rattle.jb_handle.specs.Word.{WordMap}
use Rattle.jb_handle.specs.Words.{word}
use Rattle.jb_handle.specs.declared.word.Word.TheVariants.{Copy}
use Rattle.jb_handle.specs.declared.stopped.Stopped.{Stopped}
use Rattle.jb_recover.specs.Outcomes.{recovered}
use Rattle.jb_log.specs.Follows.{StandsBy}
use Rattle.jb_deck.specs.Deck.{OpenDeck}
use Rattle.jb_deck.specs.Done.{past_after}
use Rattle.jb_book.specs.Origin.{Begun}
use Rattle.jb_book.specs.SinceMark.{TicketStays}
use Rattle.proof_clients.specs.ExampleMarks.{first, entry, by_two_seats}
use Rattle.proof_clients.proofs.ExampleEnds.{inside}
use Rattle.proof_clients.proofs.ExampleRuns.{IsOfThree, three-left, written-at}
use Rattle.proof_clients.proofs.WorkerReads.{ones}
use Rattle.proof_clients.proofs.examples.runs.ticket_stays.Goals as goal

pub returns-clause-not_unmarked : goal.returns-clause-not_unmarked
returns-clause-not_unmarked g c disk ticket stays = omega (arith, slice_get_within [] stays.at stays.mark stays.stands)

module _ {D : Type 0} (G : Ghosts D) (b : Begun) (disk : D) (marks : List (OpenDeck D)) (is : TicketStays G b by_two_seats disk (entry 7 0 3 ∷ []) marks 2) where
  of-three : IsOfThree is.log
  of-three = record {
    long = sym (ones 0 is.log) ∙ sym (is.stopped.once (λ (s : ℕ × WordMap). 1));
    at_first = is.stopped.stand 0 (0, first) (omega arith);
    at_second = is.stopped.stand 2 (0, first) (omega arith);
    at_third = is.stopped.stand 1 (0, first) (omega arith);
  }

  all-given : length is.given ≡ 3
  all-given =
      let three : past_after 0 is.deck.trail ≡ 3 = ap (past_after 0) is.same_trail in
      let few : 3 < length is.given → ⊥ = λ more. (
      let fourth = inside b is.log is.given is.has.tickets is.has.stopped 3 more in
      omega (arith, fourth, of-three.long)) in
      omega (arith, few, is.has.settled, three)

  -- the first three handles leave in home 1 what the first one wrote
  pub first-home : (many : ℕ) → 3 ≤ many → many ≤ length is.given → word (take many is.given) 1 ≡ Some (Copy [])
  first-home many from to =
      let all : many ≡ length is.given = omega (arith, all-given, from, to) in
      ap (λ n. word (take n is.given) 1) all
      ∙ ap (λ (hs : List Stopped). word hs 1) (take-length is.given)
      ∙ three-left b is.log is.given of-three is.has.tickets is.has.stopped all-given 1
      ∙ (λ k. option_or (option_or (option_or None (written-at 3 1 k)) (written-at 2 1 k)) (written-at 1 1 k))

pub returns-clause-not_lost : goal.returns-clause-not_lost
returns-clause-not_lost g c disk marks image honest left apart stays =
    let G = g.D.Disk in
    let b = g.H.Origin.begun in
    let has = stays.leaves image (g.met.D.Disk.counts_now disk (G.moment stays.mark.disk) image honest stays.earlier left) in
    let same : has.recovered.sb.maxlen ≡ b.own.maxlen = ap (λ (s : Superblock). s.maxlen) has.recovered.same in
    apart (ap (λ n. block (recovered b.size b.count image) (n + 1)) (sym same)
    ∙ subst (λ w. StandsBy w (b.homes 1) (block (recovered b.size b.count image) (has.recovered.sb.maxlen + 1))) (first-home G b disk marks stays has.many has.from has.to) (has.recovered.each 1))
