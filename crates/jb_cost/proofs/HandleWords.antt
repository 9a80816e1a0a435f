-- What the words of one handle, taken in turn, do to a home.
use Rattle.std.proofs.Common.{◌≡◌, ℕ, ◌+◌, ◌<◌, Bool, true, false, cond, nat_eq, T, List, [], ◌∷◌, ◌++◌, None, take, length, get_or, Option, Some, refl, sym, ap, ◌∙◌, nat_cmp}
use Rattle.std.specs.FinMap as map
use Rattle.jb_handle.specs.declared.word.Word.{Word}
use Rattle.std.proofs.lemmas.List.{take_more}
use Rattle.std.specs.Option.{option_or}
use Rattle.jb_handle.specs.declared.stopped.Stopped.{Stopped}
use Rattle.jb_handle.proofs.TouchedHomes.{word-append}
use Rattle.jb_handle.specs.Words.{word}
use Rattle.jb_handle.proofs.RisingHomes.{find-with}
use Rattle.jb_cost.specs.NewHomes.{later}

with-one : {A : Type 0} (F : Option Word → A) (w : Word) (t : Bool) (found : Option Word) → cond t (F (Some w)) (F found) ≡ F (cond t (Some w) found)
with-one F w true found = refl
with-one F w false found = refl

module _ (es : List (ℕ × Word)) (rising : T (map.is_sorted nat_cmp es)) (i : ℕ) (e : ℕ × Word) (here : e ≡ get_or es i e) (inside : i < length es) (q : ℕ) where
  -- what the word of a home says, by the first entries, and by one more
  pub next-found : {A : Type 0} (F : Option Word → A) (old : A) → old ≡ F (map.find nat_cmp q (take i es)) → cond (nat_eq q e.0) (F (Some e.1)) old ≡ F (map.find nat_cmp q (take (i + 1) es))
  next-found F old so_far = ap (cond (nat_eq q e.0) (F (Some e.1))) so_far ∙ with-one F e.1 (nat_eq q e.0) _ ∙ ap F (sym (find-with es rising i e here inside q))

  pub next-is : (old before : Bool) (kind : Option Word → Bool) (k : Bool) → kind (Some e.1) ≡ k → old ≡ later kind (map.find nat_cmp q (take i es)) before → cond (nat_eq q e.0) k old ≡ later kind (map.find nat_cmp q (take (i + 1) es)) before
  next-is old before kind k is so_far = ap (λ b. cond (nat_eq q e.0) b old) (sym is) ∙ next-found (λ w. later kind w before) old so_far

later-or : (kind : Option Word → Bool) (w v : Option Word) → later kind w (kind v) ≡ kind (option_or w v)
later-or kind None v = refl
later-or kind (Some w) v = refl

-- one handle more
pub later-handle : (kind : Option Word → Bool) (hs : List Stopped) (i : ℕ) (h : Stopped) → h ≡ get_or hs i h → i < length hs → (q : ℕ) (old : Bool) → old ≡ kind (word (take i hs) q) → later kind (map.get h.words q) old ≡ kind (word (take (i + 1) hs) q)
later-handle kind hs i h here inside q old so_far =
    ap (later kind (map.get h.words q)) so_far
    ∙ later-or kind (map.get h.words q) (word (take i hs) q)
    ∙ ap kind (sym (word-append (take i hs) h q))
    ∙ ap (λ gs. kind (word gs q)) (ap (λ g. take i hs ++ g ∷ []) here ∙ sym (take_more hs i h inside))
