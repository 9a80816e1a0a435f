-- The open handles by their seats: a finite map, one for a seat, and each with the words of its changes.
use Rattle.std.proofs.Common.{◌≡◌, ℕ, true, false, cond, ◌==◌, List, [], ◌∷◌, Some, None, Ordering, Less, Equal, Greater, sym, refl, ap, ◌∙◌, subst, ⊎_elim, arith}
use Rattle.std.proofs.lemmas.Bool.{cases_Bool, cond_both}
use Rattle.std.proofs.lemmas.Bool.Decides.{nat_tests}
use Rattle.std.specs.Ordering.{nat_cmp, match_ordering}
use Rattle.std.specs.Cmp.{nat_cmp_total, unsigned_tied}
use Rattle.std.specs.BTreeMap.{is_at}
use Rattle.std.specs.Map.{lookup}
use Rattle.std.specs.FinMap as map
use Rattle.std.specs.FinMap.Entries.{find-put}
use Rattle.jb_handle.specs.HeldChanges.{Held}
use Rattle.jb_handle.specs.LastOp.{words_by}
use Rattle.jb_handle.proofs.Trees.{insert-puts, find-looks}
use Rattle.jb_core.specs.Lives.{EventLog, is_seat, ops_of}
use Rattle.jb_core.specs.SeatLaw.{changed}
use Rattle.jb_core.specs.Seats.{get, set, change, drop, Once}
use Rattle.jb_core.proofs.MapEntries.{missed}

-- ---- seats

pub seat-is : (a b : ℕ) → is_seat a b ≡ true → a ≡ b
seat-is a b same = let test : (a == b) ≡ true = sym (unsigned_tied a b) ∙ same in grind (arith, nat_tests)

pub seat-self : (a : ℕ) → is_seat a a ≡ true
seat-self a = unsigned_tied a a ∙ (let test : (a == a) ≡ true = grind (arith, nat_tests) in test)

seat-swap : (a b : ℕ) → is_seat a b ≡ false → is_seat b a ≡ false
seat-swap a b apart = unsigned_tied b a ∙ (let test : (a == b) ≡ false = sym (unsigned_tied a b) ∙ apart in let other : (b == a) ≡ false = grind (arith, nat_tests) in other)

-- ---- what a seat holds after a change of a seat k

module _ {V : Type 0} (k : ℕ) where
  module _ (v : V) where
    set-at : (es : List (ℕ × V)) (s : ℕ) → get (set es k v) s ≡ cond (is_seat s k) (Some v) (get es s)
    set-at es s =
        ap (lookup (is_at (nat_cmp s))) (sym (insert-puts k v es))
        ∙ sym (find-looks s (map.put nat_cmp k v es))
        ∙ find-put nat_cmp nat_cmp_total s k v es
        ∙ ap (cond (is_seat s k) (Some v)) (find-looks s es)

    pub set-same : (es : List (ℕ × V)) → get (set es k v) k ≡ Some v
    set-same es = set-at es k ∙ ap (λ b. cond b (Some v) (get es k)) (seat-self k)

    pub set-other : (other : ℕ) (es : List (ℕ × V)) → is_seat other k ≡ false → get (set es k v) other ≡ get es other
    set-other other es away = set-at es other ∙ ap (λ b. cond b (Some v) (get es other)) away

    pub change-same : (es : List (ℕ × V)) → get (change es k v) k ≡ changed (get es k) v
    change-same [] = refl
    change-same (e ∷ es) = grind (arith, change-same es)

    pub change-other : (other : ℕ) (es : List (ℕ × V)) → is_seat other k ≡ false → get (change es k v) other ≡ get es other
    change-other other [] away = refl
    change-other other (e ∷ es) away = let is = seat-is k e.0 in grind (arith, is, change-other other es away)

  pub drop-same : (es : List (ℕ × V)) → Once es → get (drop es k) k ≡ None
  drop-same [] once = refl
  drop-same (e ∷ es) once = let is = seat-is k e.0 in grind (arith, is, once.0, drop-same es once.1)

  pub drop-other : (other : ℕ) (es : List (ℕ × V)) → is_seat other k ≡ false → get (drop es k) other ≡ get es other
  drop-other other [] away = refl
  drop-other other (e ∷ es) away = let is = seat-is k e.0 in grind (arith, is, drop-other other es away)

  -- ---- one entry for a seat

  pub once-set : (v : V) (es : List (ℕ × V)) → get es k ≡ None → Once es → Once (set es k v)
  once-set v [] none once = (refl, tt)
  once-set v (e ∷ es) none once = at (nat_cmp k e.0) refl (once-set v es miss.1 once.1)
    where
      miss : (is_seat k e.0 ≡ false) × (get es k ≡ None)
      miss = missed (is_seat k e.0) e.1 _ none

      at : (o : Ordering) → nat_cmp k e.0 ≡ o → Once (set es k v) → Once (match_ordering o ((k, v) ∷ e ∷ es) ((e.0, v) ∷ es) (e ∷ set es k v))
      at Less is rest = (none, once)
      at Equal is rest = once
      at Greater is rest = (set-other v e.0 es (seat-swap k e.0 miss.0) ∙ once.0, rest)

  pub once-change : (v : V) (es : List (ℕ × V)) → Once es → Once (change es k v)
  once-change v [] once = tt
  once-change v (e ∷ es) once =
      cond_both (is_seat k e.0) ((e.0, v) ∷ es) (e ∷ change es k v) Once
      (λ is. once)
      (λ is. (change-other v e.0 es (seat-swap k e.0 is) ∙ once.0, once-change v es once.1))

  pub once-drop : (es : List (ℕ × V)) → Once es → Once (drop es k)
  once-drop [] once = tt
  once-drop (e ∷ es) once =
      cond_both (is_seat k e.0) es (e ∷ drop es k) Once
      (λ is. once.1)
      (λ is. (drop-other e.0 es (seat-swap k e.0 is) ∙ once.0, once-drop es once.1))

-- ---- each handle has the words of its changes

abbrev pub AreBy : EventLog → List (ℕ × Held) → Type 0
AreBy log es = (s : ℕ) (h : Held) → get es s ≡ Some h → h.words ≡ words_by (ops_of s log)

-- where the log and the handles of one seat have changed
by-now : (log next : EventLog) (k : ℕ) (es fs : List (ℕ × Held)) → ((s : ℕ) → is_seat k s ≡ false → ops_of s next ≡ ops_of s log) → ((s : ℕ) → is_seat s k ≡ false → get fs s ≡ get es s)
    → ((h : Held) → get fs k ≡ Some h → h.words ≡ words_by (ops_of k next)) → AreBy log es → AreBy next fs
by-now log next k es fs others away here by s h is =
    ⊎_elim
    (λ (same : is_seat s k ≡ true). subst (λ x. get fs x ≡ Some h → h.words ≡ words_by (ops_of x next)) (sym (seat-is s k same)) (here h) is)
    (λ (apart : is_seat s k ≡ false). by s h (sym (away s apart) ∙ is) ∙ ap words_by (sym (others s (seat-swap s k apart))))
    (cases_Bool (is_seat s k))

-- where the log grows by an event of one seat, which holds another handle then
pub by-changed : (log next : EventLog) (k : ℕ) (es fs : List (ℕ × Held)) (v : Held) → ((s : ℕ) → is_seat k s ≡ false → ops_of s next ≡ ops_of s log) → ((s : ℕ) → is_seat s k ≡ false → get fs s ≡ get es s)
    → get fs k ≡ Some v → v.words ≡ words_by (ops_of k next) → AreBy log es → AreBy next fs
by-changed log next k es fs v others away there new by = by-now log next k es fs others away (λ h is. let held : h ≡ v = cc in ap (λ (g : Held). g.words) held ∙ new) by

-- where a seat holds no handle any more
pub by-dropped : (log : EventLog) (k : ℕ) (es : List (ℕ × Held)) → Once es → AreBy log es → AreBy log (drop es k)
by-dropped log k es once by = by-now log log k es (drop es k) (λ s apart. refl) (λ s apart. drop-other k s es apart) (λ h is. let none = drop-same k es once in absurd (let h : ⊥ = cc in h)) by
