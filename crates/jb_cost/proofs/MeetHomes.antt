-- The homes of a handle, put one by one among those that others touch.
use Rattle.std.proofs.Common.{◌≡◌, ℕ, ◌+◌, ◌<◌, ◌≤◌, Bool, true, false, cond, not, ◌&&◌, ◌||◌, nat_eq, T, List, [], ◌∷◌, ◌++◌, length, take, get_or, is_some, refl, sym, ap, subst, ◌∙◌, arith, nat_cmp, is_eq}
use Rattle.std.specs.List.{list_any}
use Rattle.std.specs.Cmp.{nat_cmp_total}
use Rattle.std.specs.BTreeSet as tree
use Rattle.std.specs.BTreeSet.{BTreeSet}
use Rattle.std.specs.FinMap as map
use Rattle.std.specs.FinSet as set
use Rattle.std.proofs.lemmas.List.Sums.{sum_by_more}
use Rattle.std.proofs.lemmas.List.Folds.{list_any-append}
use Rattle.std.proofs.Math.Bool.{and-true, and-false, or-false}
use Rattle.std.proofs.lemmas.List.{take_more}
use Rattle.std.proofs.lemmas.Bool.Decides.{nat_tests}
use Rattle.jb_handle.specs.declared.word.Word.{Word}
use Rattle.jb_handle.specs.Word.{is_copy, is_free}
use Rattle.jb_handle.proofs.RisingHomes.{none-before}
use Rattle.jb_cost.proofs.HandleWords.{next-found}
use Rattle.jb_cost.specs.NewHomes.{is_new, new_homes}

-- the first i entries were put among the homes that were met: fresh lists the new ones, and copies and frees count them
pub record Meets (met homes : BTreeSet ℕ) (fresh : List ℕ) (es : List (ℕ × Word)) (i copies frees : ℕ) : Type 0 where
  pub homes_are : (q : ℕ) → tree.contains nat_cmp homes q ≡ (tree.contains nat_cmp met q || is_some (map.find nat_cmp q (take i es)))
  pub fresh_are : (q : ℕ) → list_any (nat_eq q) fresh ≡ (not (tree.contains nat_cmp met q) && is_some (map.find nat_cmp q (take i es)))
  pub copies_are : copies ≡ new_homes is_copy (set.from_list met.keys) (take i es)
  pub frees_are : frees ≡ new_homes is_free (set.from_list met.keys) (take i es)
  pub few : copies + frees ≤ i

pub meets-none : (met : BTreeSet ℕ) (fresh : List ℕ) (es : List (ℕ × Word)) → fresh ≡ [] → Meets met met fresh es 0 0 0
meets-none met fresh es none = record {
  homes_are = λ q. sym (or-false (tree.contains nat_cmp met q));
  fresh_are = λ q. ap (list_any (nat_eq q)) none ∙ sym (and-false (not (tree.contains nat_cmp met q)));
  copies_are = refl;
  frees_are = refl;
  few = omega arith;
}

put-or : (t old met found : Bool) → old ≡ (met || found) → cond t true old ≡ (met || cond t true found)
put-or t old met found e = grind (arith, nat_tests)

-- q is the new home, or is not
new-or : (t listed met found : Bool) → (t ≡ true → met ≡ false) → listed ≡ (not met && found) → (listed || (t || false)) ≡ (not met && cond t true found)
new-or t listed met found fresh e = grind (arith, nat_tests, fresh)

known-or : (t listed met found : Bool) → (t ≡ true → met ≡ true) → listed ≡ (not met && found) → listed ≡ (not met && cond t true found)
known-or t listed met found known e = grind (arith, nat_tests, known)

pub set-contains : (met : BTreeSet ℕ) (q : ℕ) → set.contains (set.from_list {R = nat_cmp} met.keys) q ≡ tree.contains nat_cmp met q
set-contains met q = set.contains-from_list nat_cmp_total met.keys q

pub tied-is : (q b : ℕ) → is_eq (nat_cmp b q) ≡ nat_eq q b
tied-is q b = grind (arith, nat_tests)

pub turned : (b : Bool) → cond (not b) 1 0 ≡ cond {A = ℕ} b 0 1
turned b = grind (arith, nat_tests)

pub one-kind : (b : Bool) → cond b 1 0 + cond b 0 1 ≡ 1
one-kind b = grind (arith, nat_tests)

module _ (met old new : BTreeSet ℕ) (fresh : List ℕ) (es : List (ℕ × Word)) (i copies frees : ℕ) (so_far : Meets met old fresh es i copies frees)
    (rising : T (map.is_sorted nat_cmp es)) (e : ℕ × Word) (here : e ≡ get_or es i e) (inside : i < length es)
    (put : (q : ℕ) → tree.contains nat_cmp new q ≡ cond (is_eq (nat_cmp e.0 q)) true (tree.contains nat_cmp old q)) where
  found-next : (q : ℕ) → is_some (map.find nat_cmp q (take (i + 1) es)) ≡ cond (nat_eq q e.0) true (is_some (map.find nat_cmp q (take i es)))
  found-next q = sym (next-found es rising i e here inside q is_some _ refl)

  homes-next : (q : ℕ) → tree.contains nat_cmp new q ≡ (tree.contains nat_cmp met q || is_some (map.find nat_cmp q (take (i + 1) es)))
  homes-next q =
      put q
      ∙ ap (λ b. cond b true (tree.contains nat_cmp old q)) (tied-is q e.0)
      ∙ put-or (nat_eq q e.0) _ (tree.contains nat_cmp met q) (is_some (map.find nat_cmp q (take i es))) (so_far.homes_are q)
      ∙ ap (λ b. tree.contains nat_cmp met q || b) (sym (found-next q))

  met-here : tree.contains nat_cmp old e.0 ≡ tree.contains nat_cmp met e.0
  met-here = so_far.homes_are e.0 ∙ ap (λ w. tree.contains nat_cmp met e.0 || is_some w) (none-before es rising i e here inside) ∙ or-false _

  at-home : (b : Bool) → tree.contains nat_cmp old e.0 ≡ b → (q : ℕ) → nat_eq q e.0 ≡ true → tree.contains nat_cmp met q ≡ b
  at-home b is q same =
      let home : e.0 ≡ q = grind (arith, nat_tests) in
      subst (λ x. tree.contains nat_cmp met x ≡ b) home (sym met-here ∙ is)

  count-at : (kind : Word → Bool) (b : Bool) → tree.contains nat_cmp old e.0 ≡ b → new_homes kind (set.from_list met.keys) (take (i + 1) es) ≡ new_homes kind (set.from_list met.keys) (take i es) + cond (kind e.1 && not b) 1 0
  count-at kind b is =
      sum_by_more (λ x. cond (is_new kind (set.from_list met.keys) x) 1 0) es i e inside
      ∙ ap (λ x. new_homes kind (set.from_list met.keys) (take i es) + cond (is_new kind (set.from_list met.keys) x) 1 0) (sym here)
      ∙ ap (λ m. new_homes kind (set.from_list met.keys) (take i es) + cond (kind e.1 && not m) 1 0) (set-contains met e.0 ∙ sym met-here ∙ is)

  -- the home was there already
  pub meets-known : tree.contains nat_cmp old e.0 ≡ true → (listed : List ℕ) → listed ≡ fresh → (copies_now frees_now : ℕ) → copies_now ≡ copies → frees_now ≡ frees → Meets met new listed es (i + 1) copies_now frees_now
  meets-known known listed same copies_now frees_now copied freed = record {
    homes_are = homes-next;
    fresh_are = λ q. ap (list_any (nat_eq q)) same ∙ known-or (nat_eq q e.0) _ (tree.contains nat_cmp met q) _ (at-home true known q) (so_far.fresh_are q) ∙ ap (λ b. not (tree.contains nat_cmp met q) && b) (sym (found-next q));
    copies_are = omega (arith, so_far.copies_are, count-at is_copy true known, ap (λ b. cond {A = ℕ} b 1 0) (and-false (is_copy e.1)));
    frees_are = omega (arith, so_far.frees_are, count-at is_free true known, ap (λ b. cond {A = ℕ} b 1 0) (and-false (is_free e.1)));
    few = omega (arith, so_far.few);
  }

  -- the home is new
  pub meets-new : tree.contains nat_cmp old e.0 ≡ false → (more : List ℕ) → more ≡ fresh ++ e.0 ∷ [] → (is : Bool) → is ≡ is_copy e.1 → (copies_now frees_now : ℕ) → copies_now ≡ copies + cond is 1 0 → frees_now ≡ frees + cond is 0 1 → Meets met new more es (i + 1) copies_now frees_now
  meets-new lacks more listed is kind copies_now frees_now copied freed = record {
    homes_are = homes-next;
    fresh_are = λ q.
        ap (list_any (nat_eq q)) listed
        ∙ list_any-append (nat_eq q) fresh (e.0 ∷ [])
        ∙ new-or (nat_eq q e.0) _ (tree.contains nat_cmp met q) _ (at-home false lacks q) (so_far.fresh_are q)
        ∙ ap (λ b. not (tree.contains nat_cmp met q) && b) (sym (found-next q));
    copies_are = omega (arith, so_far.copies_are, count-at is_copy false lacks, ap (λ b. cond {A = ℕ} b 1 0) (and-true (is_copy e.1)), ap (λ b. cond {A = ℕ} b 1 0) kind);
    frees_are = omega (arith, so_far.frees_are, count-at is_free false lacks, ap (λ b. cond {A = ℕ} b 1 0) (and-true (is_free e.1)), ap (λ b. cond {A = ℕ} (not b) 1 0) kind, turned is);
    few = omega (arith, so_far.few, one-kind is);
  }

part-or : (t old start any : Bool) → old ≡ (start && not any) → cond t false old ≡ (start && not (any || (t || false)))
part-or t old start any e = grind (arith, nat_tests)

-- one home more is taken out
pub part-next : (fresh : List ℕ) (i : ℕ) → i < length fresh → (q : ℕ) (old start : Bool) → old ≡ (start && not (list_any (nat_eq q) (take i fresh))) → cond (is_eq (nat_cmp (get_or fresh i 0) q)) false old ≡ (start && not (list_any (nat_eq q) (take (i + 1) fresh)))
part-next fresh i inside q old start so_far =
    ap (λ b. cond b false old) (tied-is q (get_or fresh i 0))
    ∙ part-or (nat_eq q (get_or fresh i 0)) old start (list_any (nat_eq q) (take i fresh)) so_far
    ∙ ap (λ b. start && not b) (sym (ap (list_any (nat_eq q)) (take_more fresh i 0 inside) ∙ list_any-append (nat_eq q) (take i fresh) (get_or fresh i 0 ∷ [])))

out-again : (met put out listed : Bool) → put ≡ (met || listed) → (met && listed) ≡ false → out ≡ (put && not listed) → out ≡ met
out-again met put out listed e apart is = grind (arith, nat_tests)

-- where the homes that were put are taken out again, the set is as it was
pub out-set : (met put out : BTreeSet ℕ) (fresh listed : List ℕ) → listed ≡ fresh → ((q : ℕ) → tree.contains nat_cmp put q ≡ (tree.contains nat_cmp met q || list_any (nat_eq q) fresh)) → ((q : ℕ) → (tree.contains nat_cmp met q && list_any (nat_eq q) fresh) ≡ false) → ((q : ℕ) → tree.contains nat_cmp out q ≡ (tree.contains nat_cmp put q && not (list_any (nat_eq q) listed))) → set.from_list {R = nat_cmp} out.keys ≡ set.from_list met.keys
out-set met put out fresh listed same partly apart taken =
    set.same_set nat_cmp_total set.nat_cmp-IsAntisymmetric _ _ (λ q.
    set-contains out q
    ∙ out-again (tree.contains nat_cmp met q) (tree.contains nat_cmp put q) _ (list_any (nat_eq q) fresh) (partly q) (apart q) (taken q ∙ ap (λ xs. tree.contains nat_cmp put q && not (list_any (nat_eq q) xs)) same)
    ∙ sym (set-contains met q))
