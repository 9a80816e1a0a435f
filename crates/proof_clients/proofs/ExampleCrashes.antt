-- What a crash leaves while three groups are committed.
use Rattle.std.proofs.Common.{◌≡◌, ℕ, ◌+◌, ◌≤◌, Bool, true, false, cond, List, [], ◌∷◌, take, refl, sym, ap, ◌∙◌, subst, arith}
use Rattle.jb_disk.specs.Image.{Image}
use Rattle.jb_super.specs.Superblock.{Superblock}
use Rattle.jb_handle.specs.Words.{word}
use Rattle.jb_cost.specs.Pieces.{joined}
use Rattle.jb_log.specs.Follows.{Follows, RecoversWith, HoldsBy, OldHeaders, next_on}
use Rattle.jb_deck.specs.GroupByGroup.{handles_to}
use Rattle.jb_log.specs.Stood.{stood_of}
use Rattle.jb_deck.proofs.Lives.{one-super}
use Rattle.proof_clients.specs.Examples.{wrote_from}
use Rattle.proof_clients.specs.ExampleCrashes.{three_writes, three_groups, with_new, MayBeLeft}
use Rattle.proof_clients.proofs.ExampleCosts.{Rise, is_in, word-wrote, word_if}
use Rattle.proof_clients.proofs.ExampleCuts.{four-starts}

-- a home that was written holds the new bytes, and another one the old ones
holds-if : (b : Bool) (old new own x : List ℕ) → HoldsBy (word_if new b) old own x ≡ (x ≡ cond b new old)
holds-if true old new own x = refl
holds-if false old new own x = refl

holds-wrote : (old new own x : List ℕ) (rest : List (List ℕ)) → Rise new rest → (home : ℕ) → HoldsBy (word (wrote_from new 0 rest) home) old own x ≡ (x ≡ with_new (joined rest) old new home)
holds-wrote old new own x rest rise home = ap (λ w. HoldsBy w old own x) (word-wrote new 0 rest rise home) ∙ holds-if (is_in (joined rest) home) old new own x

-- an image whose homes hold what these handles wrote follows with them
pub follows-wrote : (own : Superblock) (number size count : ℕ) (old new : List ℕ) (rest : List (List ℕ)) (c : Image) → Rise new rest
    → RecoversWith (stood_of own number size count (with_new (joined rest) old new)) [] c → Follows own size count (λ home. old) (wrote_from new 0 rest) c
follows-wrote own number size count old new rest c rise none = record {
  sb = none.follows.sb;
  same = none.follows.same;
  taken = none.follows.taken;
  not_refused = none.follows.not_refused;
  each = λ home. subst (λ (P : Type 0). P) (sym (holds-wrote old new _ _ rest rise home)) (none.follows.each home);
}

-- and what follows with them holds it
pub wrote-follows : (own : Superblock) (number size count : ℕ) (s : ℕ → List ℕ) (old new : List ℕ) (rest : List (List ℕ)) (c : Image) → Rise new rest
    → RecoversWith (stood_of own number size count s) [] c → Follows own size count (λ home. old) (wrote_from new 0 rest) c → (home : ℕ) → s home ≡ with_new (joined rest) old new home
wrote-follows own number size count s old new rest c rise none follows home =
    let same : none.follows.sb ≡ follows.sb = one-super size count c none.follows.sb follows.sb none.follows.taken follows.taken in
    rw (← none.follows.each home, same) (subst (λ (P : Type 0). P) (holds-wrote old new _ _ rest rise home) (follows.each home))

-- the homes of the first three groups
abbrev pub lists : List (List ℕ)
lists = (1 ∷ []) ∷ (2 ∷ 3 ∷ []) ∷ (4 ∷ []) ∷ []

module _ (own : Superblock) (next size count : ℕ) (old new : List ℕ) (c : Image) where
  -- an image with the first two groups may be left, where at most these were settled
  pub left-two : (least : ℕ) → least ≤ 2 → RecoversWith (stood_of own (next + 2) size count (with_new (1 ∷ 2 ∷ 3 ∷ []) old new)) [] c → MayBeLeft own next size count least old new c
  left-two least from none = record {
    groups = 2;
    from = from;
    to = omega arith;
    recovers = record { follows = follows-wrote own (next + 2) size count old new (take 2 lists) c (tt, (tt, tt)) none; headers = none.headers };
  }

  -- so may one with none of them, where none was settled
  pub left-none : RecoversWith (stood_of own next size count (with_new [] old new)) [] c → MayBeLeft own next size count 0 old new c
  left-none none = record {
    groups = 0;
    from = omega arith;
    to = omega arith;
    recovers = record { follows = follows-wrote own next size count old new (take 0 lists) c tt none; headers = subst (λ n. OldHeaders own n size count c) (omega arith) none.headers };
  }

  -- it is not the first groups, so many, that the image shows
  abbrev pub Never : ℕ → ℕ → (ℕ → List ℕ) → ℕ → Type 0
  Never least number s k = least ≤ k → number ≡ next + k → ((home : ℕ) → s home ≡ with_new (joined (take k lists)) old new home) → ⊥

  -- an image that is none of a first part of the groups is not left
  pub not-left : (least number : ℕ) (s : ℕ → List ℕ) → RecoversWith (stood_of own number size count s) [] c → MayBeLeft own next size count least old new c
      → Never least number s 0 → Never least number s 1 → Never least number s 2 → Never least number s 3 → ⊥
  not-left least number s none left no0 no1 no2 no3 =
      let same : none.headers.sb ≡ left.recovers.headers.sb = one-super size count c none.headers.sb left.recovers.headers.sb none.headers.taken left.recovers.headers.taken in
      let number_is = sym none.headers.number ∙ ap (λ sb. next_on sb c) same ∙ left.recovers.headers.number in
      four-starts (λ k. least ≤ k → number ≡ next + k → Follows own size count (λ home. old) (handles_to three_groups k (three_writes new)) c → ⊥)
      (λ low is follows. no0 low is (wrote-follows own number size count s old new (take 0 lists) c tt none follows))
      (λ low is follows. no1 low is (wrote-follows own number size count s old new (take 1 lists) c (tt, tt) none follows))
      (λ low is follows. no2 low is (wrote-follows own number size count s old new (take 2 lists) c (tt, (tt, tt)) none follows))
      (λ low is follows. no3 low is (wrote-follows own number size count s old new (take 3 lists) c (tt, (tt, (tt, tt))) none follows))
      left.groups left.to left.from number_is left.recovers.follows
