-- Which homes handles touch, copy and free.
use Rattle.std.proofs.Common.{◌≡◌, ℕ, Bool, false, ◌&&◌, List, [], ◌∷◌, ◌++◌, Option, Some, None, is_some, refl, sym, ap, ◌∙◌, flat_map}
use Rattle.std.specs.Option.{option_or}
use Rattle.std.specs.Ordering.{nat_cmp, eq_by_cmp}
use Rattle.std.specs.Cmp.{nat_cmp_total}
use Rattle.std.specs.List.{list_any}
use Rattle.std.specs.FinMap as map
use Rattle.std.specs.FinSet as set
use Rattle.std.proofs.lemmas.List.Folds.{list_any-append}
use Rattle.jb_handle.specs.declared.word.Word.{Word}
use Rattle.jb_handle.specs.declared.word.Word.TheVariants.{Copy, Free}
use Rattle.jb_handle.specs.declared.stopped.Stopped.{Stopped}
use Rattle.jb_handle.specs.Word.{is_copy, is_free}
use Rattle.jb_handle.specs.Words.{word, touched, is_copied, is_freed, copies, frees}
use Rattle.jb_handle.proofs.Options.{or-assoc, or-nothing, or-some}

-- whether there is something, of this kind
abbrev pub is_of : {W : Type 0} → (W → Bool) → Option W → Bool
is_of kind None = false
is_of kind (Some w) = kind w

-- the homes whose last word is of this kind
abbrev pub homes_of : (Word → Bool) → List Stopped → set.FinSet nat_cmp
homes_of kind hs = set.retain (touched hs) (λ b. is_of kind (word hs b))

pub copied-is_of : (w : Option Word) → is_of is_copy w ≡ is_copied w
copied-is_of None = refl
copied-is_of (Some (Copy bytes)) = refl
copied-is_of (Some Free) = refl

pub freed-is_of : (w : Option Word) → is_of is_free w ≡ is_freed w
freed-is_of None = refl
freed-is_of (Some (Copy bytes)) = refl
freed-is_of (Some Free) = refl

pub copies-homes_of : (hs : List Stopped) → homes_of is_copy hs ≡ copies hs
copies-homes_of hs i = set.retain (touched hs) (λ b. copied-is_of (word hs b) i)

pub frees-homes_of : (hs : List Stopped) → homes_of is_free hs ≡ frees hs
frees-homes_of hs i = set.retain (touched hs) (λ b. freed-is_of (word hs b) i)

any-word : (hs : List Stopped) (q : ℕ) → list_any (eq_by_cmp nat_cmp q) (flat_map (λ h. map.keys h.words) hs) ≡ is_some (word hs q)
any-word [] q = refl
any-word (h ∷ hs) q = rw (list_any-append (eq_by_cmp nat_cmp q) (map.keys h.words), ← map.contains_key-keys h.words q, any-word hs q, or-some (word hs q) (map.get h.words q)) refl

-- a home is touched where it has a word
pub contains-touched : (hs : List Stopped) (q : ℕ) → set.contains (touched hs) q ≡ is_some (word hs q)
contains-touched hs q = set.contains-from_list nat_cmp_total _ q ∙ any-word hs q

pub some-and : (kind : Word → Bool) (w : Option Word) → (is_some w && is_of kind w) ≡ is_of kind w
some-and kind None = refl
some-and kind (Some w) = refl

pub contains-homes_of : (kind : Word → Bool) (hs : List Stopped) (q : ℕ) → set.contains (homes_of kind hs) q ≡ is_of kind (word hs q)
contains-homes_of kind hs q =
    set.contains-retain (touched hs) (λ b. is_of kind (word hs b)) q (λ x tied. ap (λ b. is_of kind (word hs b)) (sym (set.nat_cmp-IsAntisymmetric q x tied)))
    ∙ ap (λ b. b && is_of kind (word hs q)) (contains-touched hs q)
    ∙ some-and kind (word hs q)

pub contains-copies : (hs : List Stopped) (q : ℕ) → set.contains (copies hs) q ≡ is_copied (word hs q)
contains-copies hs q = ap (λ s. set.contains s q) (sym (copies-homes_of hs)) ∙ contains-homes_of is_copy hs q ∙ copied-is_of (word hs q)

pub contains-frees : (hs : List Stopped) (q : ℕ) → set.contains (frees hs) q ≡ is_freed (word hs q)
contains-frees hs q = ap (λ s. set.contains s q) (sym (frees-homes_of hs)) ∙ contains-homes_of is_free hs q ∙ freed-is_of (word hs q)

-- a handle after the others has the last word
pub word-append : (hs : List Stopped) (h : Stopped) (q : ℕ) → word (hs ++ h ∷ []) q ≡ option_or (map.get h.words q) (word hs q)
word-append [] h q = sym (or-nothing (map.get h.words q))
word-append (g ∷ hs) h q = ap (λ w. option_or w (map.get g.words q)) (word-append hs h q) ∙ sym (or-assoc (map.get h.words q) (word hs q) (map.get g.words q))
