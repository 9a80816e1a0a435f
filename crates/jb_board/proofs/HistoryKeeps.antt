-- Each kind of step keeps the rule of a history.
use Rattle.std.proofs.Common.{All, Some, slice_get, ◌≡◌, ℕ, zero, suc, ◌+◌, ◌≢◌, ◌==◌, true, List, [], ◌∷◌, ◌++◌, length, set, sym, refl, ap, ◌∙◌, subst, ⊎_elim, arith, length-append}
use Rattle.std.specs.List.{sum_by}
use Rattle.std.proofs.lemmas.List.{nil_from_length}
use Rattle.std.proofs.lemmas.List.Sums.{sum_by-append, sum_by-cons}
use mathlib.Core.List.{IsPrefix}
use mathlib.Core.Option.{some, none, some-ne-none, some-injective}
use lib.ListN.{get_elem?}
use prog.Atomic.{either}
use Rattle.atomic_table.specs.Table.{State, Me, keeps, step, Allows, Splits, Joins, Enters as Arrivals}
use Rattle.atomic_table.proofs.Lists.{at_set, at_snoc, set_again}
use Rattle.jb_board.specs.declared.view.View.{View}
use Rattle.jb_board.specs.HistoryRule.{with_places, StandsIn, Knows, HasOneHistory}
use Rattle.jb_board.proofs.EntryPlaces.{get_last, placed_on, placed_snoc, prefix_longer, prefix_nil, prefix_same}
use Rattle.std.proofs.lemmas.List.Elements.{All-append, All-nil, All-push, All-weaker}
use Rattle.jb_board.specs.HistorySteps.{AddsEntry, Looks, Sees}
use Rattle.jb_board.specs.View.{writer, nobody, added, saw, without_mine, only_mine, only_seen, told_by}

-- a sum over views of which one is another
sum_set : {X : Type 0} (f : X → ℕ) (xs : List X) (i : ℕ) (v w : X) → get_elem? xs i ≡ some v → sum_by f (set xs i w) + f v ≡ sum_by f xs + f w
sum_set f [] i v w at = absurd (some-ne-none v (sym at))
sum_set f (x ∷ xs) zero v w at = let e : f x ≡ f v = ap f (some-injective x v at) in omega (arith, e, sum_by-cons f w xs, sum_by-cons f x xs)
sum_set f (x ∷ xs) (suc i) v w at = let r = sum_set f xs i v w at in omega (arith, r, sum_by-cons f x (set xs i w), sum_by-cons f x xs)

ones : {X : Type 0} (xs : List X) → sum_by (λ (x : X). 1) xs ≡ length xs
ones [] = refl
ones (x ∷ xs) = let s = sum_by-cons (λ y. 1) x xs in let r = ones xs in omega (arith, s, r)

module _ {E : Type 0} where
  -- ---- steps

  -- how often the entries were made for a seat
  abbrev counted : (ℕ × E → ℕ) → View E → ℕ
  counted h v = sum_by h v.mine

  all_made : (views : List (View E)) → (es : List (ℕ × E)) × ((h : ℕ × E → ℕ) → sum_by h es ≡ sum_by (counted h) views)
  all_made [] = ([], λ h. refl)
  all_made (u ∷ us) =
      let more = all_made us in
      (u.mine ++ more.0, λ h. let a = sum_by-append h u.mine more.0 in let m = more.1 h in let s = sum_by-cons (counted h) u us in omega (arith, a, m, s))

  -- what was made for all seats but one
  others : (views : List (View E)) (id : ℕ) (v : View E) → get_elem? views id ≡ some v → (rest : List (ℕ × E)) × ((h : ℕ × E → ℕ) → counted h v + sum_by h rest ≡ sum_by (counted h) views)
  others views id v at =
      let more = all_made (set views id nobody) in
      (more.0, λ h. let m = more.1 h in let s = sum_set (counted h) views id v nobody at in omega (arith, m, s))

  -- the seats fit where one view is another
  knows_set : (keeper : ℕ) (now : List E) (views : List (View E)) (id : ℕ) (w : View E)
      → ((j : ℕ) (u : View E) → j ≢ id → get_elem? views j ≡ some u → Knows keeper now j u) → Knows keeper now id w
      → (j : ℕ) (u : View E) → get_elem? (set views id w) j ≡ some u → Knows keeper now j u
  knows_set keeper now views id w others mine j u e =
      ⊎_elim
      (λ (x : (j ≡ id) × (w ≡ u)). subst (λ (y : ℕ × View E). Knows keeper now y.0 y.1) (λ i. (sym x.0 i, x.1 i)) mine)
      (λ (x : (j ≢ id) × (get_elem? views j ≡ some u)). others j u x.0 x.1)
      (at_set views id j w u e)

  -- one view is another, which has made as many
  same_made : (views : List (View E)) (id : ℕ) (v w : View E) (kept : HasOneHistory views) → get_elem? views id ≡ some v → Knows kept.keeper kept.log id w → ((h : ℕ × E → ℕ) → counted h w ≡ counted h v)
      → HasOneHistory (set views id w)
  same_made views id v w kept at fits made = record {
    keeper = kept.keeper;
    log = kept.log;
    fits = knows_set kept.keeper kept.log views id w (λ j u apart e. kept.fits j u e) fits;
    made = λ h. let s = sum_set (counted h) views id v w at in let m = made h in let k = kept.made h in omega (arith, s, m, k);
  }

  abbrev pub Holds : State E (View E) → Type 0
  Holds s = HasOneHistory s.views

  pub starts : HasOneHistory {E = E} (writer [] ∷ [])
  starts = record { keeper = 0; log = []; fits = one; made = λ h. refl }
    where
      one : (j : ℕ) (u : View E) → get_elem? (writer [] ∷ []) j ≡ some u → Knows 0 [] j u
      one zero u e = subst (λ v. Knows 0 [] 0 v) (some-injective (writer []) u e) record { seen = prefix_nil []; told = prefix_nil []; whole = λ k. (refl, refl); stands = All-nil _ }
      one (suc j) u e = absurd (some-ne-none u (sym e))

  nobody_fits : (keeper : ℕ) (log : List E) (j : ℕ) → Knows keeper log j nobody
  nobody_fits keeper log j = record { seen = prefix_nil log; told = prefix_nil log; whole = λ k. absurd (cc); stands = All-nil _ }

  one_more : (views : List (View E)) (v : View E) (kept : HasOneHistory views) → ((j : ℕ) → Knows kept.keeper kept.log j v) → v.mine ≡ [] → HasOneHistory (views ++ v ∷ [])
  one_more views v kept fits empty = record {
    keeper = kept.keeper;
    log = kept.log;
    fits = λ j u e. ⊎_elim (kept.fits j u) (λ (same : v ≡ u). subst (λ w. Knows kept.keeper kept.log j w) same (fits j)) (at_snoc views v u j e);
    made = λ h. let a = sum_by-append (counted h) views (v ∷ []) in let n : counted h v ≡ 0 = ap (sum_by h) empty in let k = kept.made h in omega (arith, a, n, k);
  }

  pub enters : (slots : ℕ) → Arrivals Holds slots 0 (λ n w. w ≡ nobody)
  enters slots s kept len small = (nobody, one_more s.views nobody kept (nobody_fits kept.keeper kept.log) refl, refl)

  pub adds : (slots id : ℕ) (me : Me E (View E)) (e : E) → me.0.keeps ≡ true → Allows Holds slots id me 0 (λ n. either (n == 0) 0 n) (AddsEntry (step slots 0 0 0 (some e)) me)
  adds slots id me e writes s kept len at small =
      let v = me.0 in
      let w = added e v in
      let mine = (kept.fits id v at).whole writes in
      let more = kept.log ++ e ∷ [] in
      let longer : (es : List (ℕ × E)) → All (StandsIn kept.log) es → All (StandsIn more) es = All-weaker (StandsIn kept.log) (StandsIn more) (placed_on kept.log more (e ∷ [], refl)) in
      let here : StandsIn more (length v.seen, e) = subst (λ l. slice_get (l ++ e ∷ []) (length v.seen) ≡ Some e) mine.1 (get_last v.seen e) in (
        w,
        keeps,
        tt,
        record {
          keeper = kept.keeper;
          log = more;
          fits = knows_set kept.keeper more s.views id w
              (λ j u apart e'. let f = kept.fits j u e' in record {
                seen = prefix_longer _ _ (e ∷ []) f.seen;
                told = prefix_longer _ _ (e ∷ []) f.told;
                whole = λ k. absurd (apart ((f.whole k).0 ∙ sym mine.0));
                stands = longer u.mine f.stands;
              })
              record {
                seen = subst (λ l. IsPrefix (v.seen ++ e ∷ []) (l ++ e ∷ [])) mine.1 (prefix_same (v.seen ++ e ∷ []));
                told = prefix_longer _ _ (e ∷ []) (kept.fits id v at).told;
                whole = λ k. (mine.0, ap (λ l. l ++ e ∷ []) mine.1);
                stands = All-push (StandsIn more) v.mine (length v.seen, e) (longer v.mine (kept.fits id v at).stands) here;
              };
          made = λ h.
              let s' = sum_set (counted h) s.views id v w at in
              let a = sum_by-append h v.mine ((length v.seen, e) ∷ []) in
              let p = ap (sum_by h) (placed_snoc 0 kept.log e) in
              let b = sum_by-append h (with_places 0 kept.log) ((0 + length kept.log, e) ∷ []) in
              let k = kept.made h in
              let same : h (length v.seen, e) ≡ h (0 + length kept.log, e) = ap (λ k. h (k, e)) (omega (arith, ap length mine.1)) in
              omega (arith, s', a, p, b, k, same);
        },
        (e, refl, refl),
      )

  pub looks : (slots id : ℕ) (me : Me E (View E)) → Allows Holds slots id me 0 (λ n. n) (Looks (step slots 0 0 0 none) me)
  looks slots id me s kept len at small =
      let v = me.0 in
      let f = kept.fits id v at in
      let w = saw kept.log v in (
        w,
        keeps,
        tt,
        same_made s.views id v w kept at record { seen = prefix_same kept.log; told = f.told; whole = λ k. ((f.whole k).0, refl); stands = f.stands } (λ h. refl),
        (
          kept.log,
          record {
            seen = f.seen;
            told = f.told;
            whole = λ k. (f.whole k).1;
            stands = f.stands;
            rest = (others s.views id v at).0;
            made = λ h. let a = (others s.views id v at).1 h in let k = kept.made h in omega (arith, a, k);
          },
          refl,
        ),
      )

  pub splits_sights : (id : ℕ) (v : View E) → Splits Holds id v v (only_seen v)
  splits_sights id v s kept at = subst (λ views. HasOneHistory (views ++ only_seen v ∷ [])) (sym (set_again s.views id v at))
      (one_more s.views (only_seen v) kept (λ j. record { seen = (kept.fits id v at).seen; told = prefix_nil kept.log; whole = λ k. absurd (cc); stands = All-nil _ }) refl)

  pub splits_entries : (id : ℕ) (v : View E) → Splits Holds id v (without_mine v) (only_mine v)
  splits_entries id v s kept at =
      let f = kept.fits id v at in record {
        keeper = kept.keeper;
        log = kept.log;
        fits = λ j u e.
            ⊎_elim
            (knows_set kept.keeper kept.log s.views id (without_mine v) (λ i x apart e'. kept.fits i x e') record { seen = f.seen; told = f.told; whole = f.whole; stands = All-nil _ } j u)
            (λ (same : only_mine v ≡ u). subst (λ x. Knows kept.keeper kept.log j x) same record { seen = prefix_nil kept.log; told = prefix_nil kept.log; whole = λ k. absurd (cc); stands = f.stands })
            (at_snoc (set s.views id (without_mine v)) (only_mine v) u j e);
        made = λ h.
            let a = sum_by-append (counted h) (set s.views id (without_mine v)) (only_mine v ∷ []) in
            let b = sum_set (counted h) s.views id v (without_mine v) at in
            let k = kept.made h in
            omega (arith, a, b, k);
      }

  pub joins : (id : ℕ) (v : View E) (other : ℕ) (w : View E) → Joins Holds id v other w (told_by v w) nobody
  joins id v other w s kept at apart there =
      let b = told_by v w in
      let f = kept.fits id v at in
      let theirs : get_elem? s.views other ≡ some w = ⊎_elim (λ (t : (other ≡ id) × (b ≡ w)). absurd (apart t.0)) (λ (t : (other ≢ id) × (get_elem? s.views other ≡ some w)). t.1) (at_set s.views id other b w there) in
      let g = kept.fits other w theirs in record {
        keeper = kept.keeper;
        log = kept.log;
        fits = knows_set kept.keeper kept.log (set s.views id b) other nobody
            (λ j u _ e. knows_set kept.keeper kept.log s.views id b (λ i x _ e'. kept.fits i x e') record { seen = f.seen; told = g.seen; whole = f.whole; stands = All-append (StandsIn kept.log) v.mine w.mine f.stands g.stands } j u e)
            (nobody_fits kept.keeper kept.log other);
        made = λ h.
            let a = sum_set (counted h) s.views id v b at in
            let c = sum_set (counted h) (set s.views id b) other w nobody there in
            let d = sum_by-append h v.mine w.mine in
            let k = kept.made h in
            omega (arith, a, c, d, k);
      }

  -- ---- what a look tells the writer

  placed_length : (n : ℕ) (es : List E) → length (with_places n es) ≡ length es
  placed_length n [] = refl
  placed_length n (e ∷ es) = ap suc (placed_length (suc n) es)

  -- where a token has as many entries as the history, it has all of them
  pub audited : (s m : View E) (log : List E) → Sees (told_by s m) log → s.keeps ≡ true → s.mine ≡ [] → length m.mine ≡ length s.seen → (h : ℕ × E → ℕ) → sum_by h m.mine ≡ sum_by h (with_places 0 s.seen)
  audited s m log sees writes empty many h =
      let same : s.seen ≡ log = sees.whole writes in
      let number = sees.made (λ e. 1) in
      let a = ones (s.mine ++ m.mine) in
      let b = ones sees.rest in
      let c = ones (with_places 0 log) in
      let d = placed_length 0 log in
      let e = length-append s.mine m.mine in
      let n : length s.mine ≡ 0 = ap length empty in
      let l : length s.seen ≡ length log = ap length same in
      let left : sum_by h sees.rest ≡ 0 = ap (sum_by h) (nil_from_length sees.rest (omega (arith, number, a, b, c, d, e, n, l, many))) in
      let own : sum_by h s.mine ≡ 0 = ap (sum_by h) empty in
      let both = sum_by-append h s.mine m.mine in
      let all = sees.made h in
      let to : sum_by h (with_places 0 s.seen) ≡ sum_by h (with_places 0 log) = ap (λ es. sum_by h (with_places 0 es)) same in
      omega (arith, left, own, both, all, to)
