-- The words of several handles as one map.
use Rattle.std.proofs.Common.{◌≡◌, ℕ, Bool, true, false, cond, List, [], ◌∷◌, ◌++◌, Option, Some, refl, ap, ◌∙◌}
use Rattle.std.specs.Option.{option_or}
use Rattle.std.specs.Ordering.{nat_cmp, eq_by_cmp}
use Rattle.std.specs.Cmp.{nat_cmp_total}
use Rattle.std.specs.FinMap as map
use Rattle.jb_handle.specs.declared.stopped.Stopped.{Stopped}
use Rattle.jb_handle.specs.Words.{word, latest_first, words_of}

pub or-cond : {W : Type 0} (b : Bool) (w : W) (x y : Option W) → cond b (Some w) (option_or x y) ≡ option_or (cond b (Some w) x) y
or-cond true w x y = refl
or-cond false w x y = refl

-- the first of two lists decides where it has the home
find-append : {W : Type 0} (b : ℕ) (es fs : List (ℕ × W)) → map.find nat_cmp b (es ++ fs) ≡ option_or (map.find nat_cmp b es) (map.find nat_cmp b fs)
find-append b [] fs = refl
find-append b (e ∷ es) fs = ap (cond (eq_by_cmp nat_cmp b e.0) (Some e.1)) (find-append b es fs) ∙ or-cond (eq_by_cmp nat_cmp b e.0) e.1 _ _

find-latest : (hs : List Stopped) (b : ℕ) → map.find nat_cmp b (latest_first hs) ≡ word hs b
find-latest [] b = refl
find-latest (h ∷ hs) b = rw (find-append b (latest_first hs) (map.entries h.words), find-latest hs b, ← map.get-entries h.words b) refl

pub get-words_of : (hs : List Stopped) (b : ℕ) → map.get (words_of hs) b ≡ word hs b
unfolding words_of
get-words_of hs b = map.get-from_entries nat_cmp_total (latest_first hs) b ∙ find-latest hs b
