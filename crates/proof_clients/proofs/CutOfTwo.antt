-- Two handles stand in the first groups of a least cut of them.
use Rattle.std.proofs.Common.{◌≡◌, inl, inr, ℕ, zero, suc, ◌≤◌, List, [], ◌∷◌, ◌++◌, map, length, take, Result, Ok, refl, sym, ap, ◌∙◌, arith}
use Rattle.std.specs.Global.{Vec}
use Rattle.std.proofs.lemmas.List.{length-map, length-take, nil_from_length, take_min}
use Rattle.jb_handle.specs.declared.shape.Shape.{Shape}
use Rattle.jb_handle.specs.declared.stopped.Stopped.{Stopped}
use Rattle.jb_handle.specs.Word.{WordMap}
use Rattle.jb_cost.specs.Cut.{RisesTo, IsCut}
use Rattle.jb_cost.specs.Pieces.{pieces, pieces_from}
use Rattle.jb_cost.proofs.Cuts.{rises-le}
use Rattle.jb_plan.specs.Batch.{gathered}
use Rattle.jb_deck.specs.declared.done.Entry.{Entry}
use Rattle.jb_book.specs.declared.fault.BeginFault.{BeginFault}
use Rattle.jb_book.specs.Account.{Account, failed_of}
use Rattle.jb_book.specs.Calls.{BookCall, Opened, Enqueued, Took, Settled, Failed, CallsMake, handles_in, stops_of}
use Rattle.jb_book.specs.MachineTie.{EveryRun}
use Rattle.proof_clients.specs.BookClient.{Have, SettlesQueue, Stand, two_stops}

-- ---- the groups of a cut of two

module _ (one two : Stopped) where
  -- what holds of both in one group, and of each in its own, holds of the groups of each cut
  both : (P : List (List Stopped) → Type 0) → P ((one ∷ two ∷ []) ∷ []) → P ((one ∷ []) ∷ (two ∷ []) ∷ []) → (a : ℕ) (bs : List ℕ) → a ≡ 0 → RisesTo 2 a bs → P (pieces_from a bs (one ∷ two ∷ []))
  both P together apart a [] start is = absurd (let h : ⊥ = omega (arith, start, is) in h)
  both P together apart a (b ∷ []) start is = let ends : b ≡ 2 = is.1 in rw (start, ends) together
  both P together apart a (b ∷ c ∷ []) start is =
      let ends : c ≡ 2 = is.1.1 in
      let mid : b ≡ 1 = omega (arith, start, is.0, is.1.0, ends) in
      rw (start, mid, ends) apart
  both P together apart a (b ∷ c ∷ d ∷ bs) start is = absurd (let h : ⊥ = omega (arith, start, is.0, is.1.0, is.1.1.0, rises-le 2 d bs is.1.1.1) in h)

  in-one : (k : ℕ) → Have one two (take k ((one ∷ two ∷ []) ∷ []))
  in-one zero = tt
  in-one (suc zero) = inr refl
  in-one (suc (suc k)) = inr refl

  in-two : (k : ℕ) → Have one two (take k ((one ∷ []) ∷ (two ∷ []) ∷ []))
  in-two zero = tt
  in-two (suc zero) = inl refl
  in-two (suc (suc zero)) = (refl, refl)
  in-two (suc (suc (suc k))) = (refl, refl)

  have-first : (cut : List ℕ) → IsCut 2 cut → (k : ℕ) → Have one two (take k (pieces cut (one ∷ two ∷ [])))
  have-first [] is k = absurd is
  have-first (a ∷ bs) is k = both (λ gs. Have one two (take k gs)) (in-one k) (in-two k) a bs is.0 is.1

no-map : {A B : Type 0} (f : A → B) (xs : List A) → map f xs ≡ [] → xs ≡ []
no-map f xs none = nil_from_length xs (sym (length-map xs f) ∙ ap length none)

-- ---- the calls

-- the calls up to the second stop
abbrev pub begun : ℕ → ℕ → Result (Unit {0}) BeginFault → Result (Unit {0}) BeginFault → WordMap → WordMap → ℕ → ℕ → List BookCall
begun c d r s first second t u = Enqueued 2 second (Ok u) ∷ Enqueued 1 first (Ok t) ∷ Opened 2 d s ∷ Opened 1 c r ∷ []

-- the calls up to the settle
abbrev pub settled : List Entry → Account → List ℕ → List BookCall → List BookCall
settled entries a cut calls = Settled entries (Ok tt) ∷ Took (gathered a.shadow.taken a.shadow.queue a.shape) cut ∷ calls

module _ (any : Vec Entry) (run : EveryRun) (shape : Shape) (usable : ℕ) (small : usable ≤ 2147483646) (first second : WordMap) (c d t u : ℕ) (r s : Result (Unit {0}) BeginFault) (mid after last : Account) (before later : List Entry)
    (called : CallsMake shape usable (begun c d r s first second t u) mid) (settles : SettlesQueue mid after before later) where
  -- the book's trail has the groups that the journal has settled, and these are the first of a cut of the two handles
  pub stand : last ≡ failed_of after → (trail : List Entry) → trail ≡ last.trail → (later ≡ before ++ trail) × Stand shape first second trail
  stand fails trail is =
      let calls = begun c d r s first second t u in
      let first_kept = (run any shape usable calls mid small called).0 in
      let kept = (run any shape usable (Failed ∷ settled settles.entries mid settles.cut calls) last small (after, settles.goes shape usable calls called, fails)).0 in
      let numbers = first_kept.numbered in
      let two = two_stops first second in
      let parts = pieces settles.cut two in
      let named : stops_of calls ≡ two = λ i. record { ticket = numbers.0 i; words = first } ∷ record { ticket = numbers.1.0 i; words = second } ∷ [] in
      let queue : mid.shadow.queue ≡ two = first_kept.running settles.could.running ∙ named in
      let none : mid.trail ≡ [] = no-map (handles_in (stops_of calls)) mid.trail (sym first_kept.trail) in
      let least = rw (first_kept.same_shape, queue) at settles.least in
      let groups : map (handles_in two) trail ≡ take (length settles.entries) parts = rw (is, ← named, ← kept.trail, first_kept.running settles.could.running) refl in
      let long = sym (length-map trail (handles_in two)) ∙ ap length groups ∙ length-take (length settles.entries) parts in (
        settles.told ∙ ap (λ es. before ++ es) (sym (is ∙ ap (λ (a : Account). a.trail) fails ∙ settles.trail ∙ ap (λ es. es ++ settles.entries) none)),
        record {
          cut = settles.cut;
          least = least;
          groups = groups ∙ sym (ap (λ n. take n parts) long ∙ take_min (length settles.entries) parts);
          have = rw groups (have-first (record { ticket = 0; words = first }) (record { ticket = 1; words = second }) settles.cut least.fitting.cut (length settles.entries));
        },
      )
