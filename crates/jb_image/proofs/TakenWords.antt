-- What was taken up of a list's words.
use Rattle.std.proofs.Common.{◌≡◌, ◌∙◌, sym, ap, refl, ℕ, ◌+◌, List, [], ◌∷◌, ◌++◌, length, Option, Some, None, Err}
use Rattle.std.specs.Borrow.{Bor}
use Rattle.std.specs.Option.{option_copied}
use Rattle.std.specs.Prelude.{option_and_then}
use Rattle.std.proofs.lemmas.List.{append_assoc}
use Rattle.std.proofs.lemmas.Option.{none-some, same_Some}
use Rattle.jb_image.specs.Lists.{extents_in, listed, listed_in, with_word, with_words, ReadsList, TakesWord}
use Rattle.jb_map.specs.declared.extent.Extent.{Extent}
use Rattle.jb_image.specs.declared.extents_fault.ListFault.{ListFault}
use Rattle.jb_image.specs.declared.extents_fault.ListFault.TheVariants.{Syntax, Memory}

-- how much of a text is left, the end counted
abbrev pub left_len : Option (List ℕ) → ℕ
left_len None = 0
left_len (Some text) = length text + 1

-- of the words of a text some were taken up, and they list these extents
pub record AreTaken (text : List ℕ) (left : List (List ℕ)) (es : List Extent) : Type 0 where
  pub earlier : List (List ℕ)
  pub parts : listed text ≡ earlier ++ left
  pub reads : with_words [] earlier ≡ Some es

pub taken-none : (text : List ℕ) → AreTaken text (listed text) []
taken-none text = record { earlier = []; parts = refl; reads = refl }

-- words after others are taken up after these
with-rest : (es : List Extent) (earlier later : List (List ℕ)) (had : List Extent) → with_words es earlier ≡ Some had → with_words es (earlier ++ later) ≡ with_words had later
with-rest es [] later had is = ap (λ now. with_words now later) (same_Some es had is)
with-rest es (word ∷ more) later had is =
    elim (with_word es word) as (λ taken. option_and_then (λ now. with_words now more) taken ≡ Some had → option_and_then (λ now. with_words now (more ++ later)) taken ≡ with_words had later) [
      | None ↦ λ none. absurd (none-some had none)
      | Some now ↦ with-rest now more later had
    ] is

module _ (text : List ℕ) (left : List (List ℕ)) (es : List Extent) (taken : AreTaken text left es) where
  -- what the text lists is what is left lists after these extents
  taken-lists : extents_in text ≡ with_words es left
  taken-lists = ap (with_words []) taken.parts ∙ with-rest [] taken.earlier left es taken.reads

  module _ (word : List ℕ) (rest : List (List ℕ)) (first : left ≡ word ∷ rest) where
    from_word : listed text ≡ taken.earlier ++ word ∷ rest
    from_word = taken.parts ∙ ap (λ words. taken.earlier ++ words) first

    -- one more word
    pub taken-goes : (now : List Extent) → with_word es word ≡ Some now → AreTaken text rest now
    taken-goes now is = record {
      earlier = taken.earlier ++ word ∷ [];
      parts = from_word ∙ sym (append_assoc taken.earlier (word ∷ []) rest);
      reads = with-rest [] taken.earlier (word ∷ []) es taken.reads ∙ ap (option_and_then (λ now. Some now)) is;
    }

    -- a word that is not taken up
    pub taken-fails : (new : List Extent) (fault : ListFault) → TakesWord word es new (Err fault) → ReadsList text (Err fault)
    taken-fails new Syntax none = taken-lists ∙ ap (with_words es) first ∙ ap (option_and_then (λ now. with_words now rest)) none
    taken-fails new Memory keeps = record { earlier = taken.earlier; word = word; later = rest; had = es; parts = from_word; reads = taken.reads; keeps = keeps }

-- all words were taken up
pub taken-ends : (text : List ℕ) (es : List Extent) (left : Option (Bor (List ℕ))) → AreTaken text (listed_in (option_copied left)) es → ((words : Bor (List ℕ)) → left ≡ Some words → ⊥) → extents_in text ≡ Some es
taken-ends text es None taken ended = taken-lists text [] es taken
taken-ends text es (Some words) taken ended = absurd (ended words refl)
