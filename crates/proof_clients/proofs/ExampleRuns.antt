-- What the workers of a run have stopped, and what three handles leave at home.
use Rattle.std.proofs.Common.{◌≡◌, ℕ, List, [], ◌∷◌, All, Some, None, nat_cmp, length, slice_get, sym, ap, ap₂, subst, ◌∙◌, arith}
use Rattle.std.specs.Option.{option_or}
use Rattle.std.specs.FinMap as map
use Rattle.std.proofs.lemmas.Option.{same_Some}
use Rattle.jb_disk.specs.declared.disk.Disk.{Ghosts}
use Rattle.jb_handle.specs.Tickets.{TicketsFrom}
use Rattle.jb_handle.specs.Word.{WordMap}
use Rattle.jb_handle.specs.Words.{word}
use Rattle.jb_handle.specs.declared.stopped.Stopped.{Stopped}
use Rattle.jb_book.specs.Origin.{Begun}
use Rattle.jb_book.specs.History.{IsStop}
use Rattle.jb_journal.specs.Notes.{Known, Stop}
use Rattle.jb_journal.specs.Run.{RanOn}
use Rattle.jb_journal.specs.declared.ran.Ran.{Ran}
use Rattle.proof_clients.specs.Examples.{copies_at}
use Rattle.proof_clients.specs.ExampleMarks.{first, second, third}
use Rattle.proof_clients.specs.ExampleNotes.{HasStopped}
use Rattle.proof_clients.proofs.WorkerReads.{two-of}

module _ {D : Type 0} (G : Ghosts D) (b : Begun) (disk : D) (ran : Ran ℕ D) (one two : List Stop) where
  -- what two workers have stopped
  pub both-stopped : (on : RanOn G disk b (HasStopped (one ∷ two ∷ [])) 2 ran) → on.all.stopped ≡ one ∷ two ∷ []
  both-stopped on =
      let nothing : Known = record { log = []; notes = [] } in
      two-of on.all.stopped [] on.all.answers.same
      ∙ ap₂ (λ x y. x ∷ y ∷ []) (on.all.answers.each 0 [] nothing [] 0 (omega arith)) (on.all.answers.each 1 [] nothing [] 0 (omega arith))

-- the history of three handles
pub record IsOfThree (log : List WordMap) : Type 0 where
  pub long : length log ≡ 3
  pub at_first : slice_get log 0 ≡ Some first
  pub at_second : slice_get log 1 ≡ Some second
  pub at_third : slice_get log 2 ≡ Some third

-- what a handle of it leaves in a home
one-word : (b : Begun) (log : List WordMap) (h : Stopped) (n : ℕ) (words : WordMap) (home : ℕ) → IsStop b log h → h.ticket ≡ n → slice_get log n ≡ Some words → map.get h.words home ≡ map.get words home
one-word b log h n words home is ticket at =
    let own : slice_get log n ≡ Some h.words = subst (λ k. slice_get log k ≡ Some h.words) ticket is.1 in
    ap (λ (w : WordMap). map.get w home) (same_Some h.words words (sym own ∙ at))

-- all three leave in a home what the last of them does that wrote it
pub three-left : (b : Begun) (log : List WordMap) (given : List Stopped) → IsOfThree log → TicketsFrom 0 given → All (IsStop b log) given → length given ≡ 3 → (home : ℕ)
    → word given home ≡ option_or (option_or (option_or None (map.get third home)) (map.get second home)) (map.get first home)
three-left b log [] three tickets are long home = absurd (omega (arith, long))
three-left b log (h ∷ []) three tickets are long home = absurd (omega (arith, long))
three-left b log (h ∷ i ∷ []) three tickets are long home = absurd (omega (arith, long))
three-left b log (h ∷ i ∷ j ∷ []) three tickets are long home =
    let of_h = one-word b log h 0 first home (are 0 h (omega arith)) tickets.0 three.at_first in
    let of_i = one-word b log i 1 second home (are 1 h (omega arith)) tickets.1.0 three.at_second in
    let of_j = one-word b log j 2 third home (are 2 h (omega arith)) tickets.1.1.0 three.at_third in
    (λ k. option_or (option_or (option_or None (of_j k)) (of_i k)) (of_h k))
three-left b log (h ∷ i ∷ j ∷ l ∷ given) three tickets are long home = absurd (omega (arith, long))

-- what a handle left at a home that wrote one
pub written-at : (own home : ℕ) → map.get (map.from_sorted {R = nat_cmp} (copies_at [] (own ∷ []))) home ≡ map.find nat_cmp home (copies_at [] (own ∷ []))
written-at own home = map.get-from_sorted nat_cmp (copies_at [] (own ∷ [])) home tt
