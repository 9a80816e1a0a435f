-- The first home block that is the journal's own, among some and others after them.
use Rattle.std.proofs.Common.{◌≡◌, ℕ, ◌+◌, ◌<◌, Bool, true, false, if◌then◌else◌, List, [], ◌∷◌, ◌++◌, length, get_or, drop, Option, None, Some, refl, sym, ap, subst, ◌∙◌, Ok}
use Rattle.std.proofs.lemmas.List.{drop_more}
use Rattle.std.specs.FinMap as map
use Rattle.jb_handle.specs.Word.{WordMap}
use Rattle.jb_handle.specs.declared.stopped.Stopped.{Stopped}
use Rattle.jb_image.specs.Disks.{extents_of, own_in}
use Rattle.jb_image.specs.Images.{own_home}
use Rattle.jb_image.specs.Lists.{holds_in, list_of}
use Rattle.jb_image.specs.declared.extents.Extents.{Extents}
use Rattle.jb_image.specs.declared.image.ImageDisk.{ImageDisk}
use Rattle.jb_image.specs.declared.image.ImageDisk.TheVariants.{One, Two, Within}
use Rattle.jb_queue.specs.QueueLines.{HasRead, StandsAfter}
use Rattle.jb_queue.specs.declared.queue_lines.HandleReader.{HandleReader}
use Rattle.jb_tool.specs.OwnTouched.{touched_by}

-- what is found in front of others
first-by : (b : Bool) (x home : ℕ) (mine all : Option ℕ) → (mine ≡ Some home → all ≡ Some home) → (if b then Some x else mine) ≡ Some home → (if b then Some x else all) ≡ Some home
first-by true x home mine all more is = is
first-by false x home mine all more is = more is

rest-by : (b : Bool) (x : ℕ) (mine all others : Option ℕ) → (mine ≡ None → all ≡ others) → (if b then Some x else mine) ≡ None → (if b then Some x else all) ≡ others
rest-by true x mine all others more none = absurd (let h : ⊥ = cc in h)
rest-by false x mine all others more none = more none

first-in : (es : Extents) (xs ys : List ℕ) (home : ℕ) → own_in es xs ≡ Some home → own_in es (xs ++ ys) ≡ Some home
first-in es [] ys home is = absurd (let h : ⊥ = cc in h)
first-in es (x ∷ xs) ys home is = first-by (holds_in (list_of es) x) x home (own_in es xs) (own_in es (xs ++ ys)) (first-in es xs ys home) is

rest-in : (es : Extents) (xs ys : List ℕ) → own_in es xs ≡ None → own_in es (xs ++ ys) ≡ own_in es ys
rest-in es [] ys none = refl
rest-in es (x ∷ xs) ys none = rest-by (holds_in (list_of es) x) x (own_in es xs) (own_in es (xs ++ ys)) (own_in es ys) (rest-in es xs ys) none

module _ {D E : Type 0} where
  -- where the first have one, that is the first of all
  pub own-first : (disk : ImageDisk D E) (xs ys : List ℕ) (home : ℕ) → own_home disk xs ≡ Some home → own_home disk (xs ++ ys) ≡ Some home
  own-first (One disk) xs ys home is = is
  own-first (Two pair) xs ys home is = is
  own-first (Within disk) xs ys home is = first-in (extents_of disk) xs ys home is

  -- where they have none, it is that of the others
  pub own-rest : (disk : ImageDisk D E) (xs ys : List ℕ) → own_home disk xs ≡ None → own_home disk (xs ++ ys) ≡ own_home disk ys
  own-rest (One disk) xs ys none = refl
  own-rest (Two pair) xs ys none = refl
  own-rest (Within disk) xs ys none = rest-in (extents_of disk) xs ys none

-- a reader gave the words of the handle at a place, where those that were left had the first one of all
module _ {D E : Type 0} (disk : ImageDisk D E) (all : List Stopped) (at n : ℕ) (same : n ≡ at) (reader : HandleReader) (words : WordMap) (has : HasRead all n reader (Ok (Some words)))
    (rest : own_home disk (touched_by (drop at all)) ≡ own_home disk (touched_by all)) where
  -- the home blocks of the handles that are left, by those of the next one
  touched-next : touched_by (drop at all) ≡ map.keys words ++ touched_by (drop (at + 1) all)
  touched-next =
      let d : Stopped = record { ticket = 0; words = map.empty } in
      ap touched_by (drop_more all at d (subst (λ k. k < length all) same has.0))
      ∙ ap (λ ws. map.keys ws ++ touched_by (drop (at + 1) all)) (sym (has.1 d ∙ ap (λ k. (get_or all k d).words) same))

  -- it has one, which is the first of all
  pub own-here : (home : ℕ) → own_home disk (map.keys words) ≡ Some home → own_home disk (touched_by all) ≡ Some home
  own-here home is = sym rest ∙ ap (λ homes. own_home disk homes) touched-next ∙ own-first disk _ _ home is

  -- it has none, and the handles after it have the first one of all
  pub own-later : own_home disk (map.keys words) ≡ None → own_home disk (touched_by (drop (at + 1) all)) ≡ own_home disk (touched_by all)
  own-later none = sym (own-rest disk _ _ none) ∙ (sym (ap (λ homes. own_home disk homes) touched-next) ∙ rest)

  -- and the reader stands after it
  pub stands-next : StandsAfter reader all (at + 1)
  stands-next = subst (λ k. StandsAfter reader all (k + 1)) same has.2
