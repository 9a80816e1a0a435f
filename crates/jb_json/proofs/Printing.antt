-- The pieces of an object are its tokens as they are printed.
use Rattle.std.proofs.Common.{◌≡◌, ℕ, true, false, List, Option, [], ◌∷◌, ◌++◌, None, Some, map, refl, ap, sym, ◌∙◌, append_assoc, append-nil}
use Rattle.std.specs.Prelude.{codes, decimal}
use Rattle.json.specs.Ascii.{null_text}
use Rattle.json.specs.Token.{Token}
use Rattle.json.specs.Print.{print, print_from, quoted}
use Rattle.json.specs.Tree.{items_tokens, json_tokens, members_tokens}
use Rattle.jb_text.specs.TextParts.{spelled}
use Rattle.jb_json.specs.Facts.{Fact, Counted, Bare, Worded, Named, Marked, Chosen, Listed, Sparse}
use Rattle.jb_json.specs.Objects.{fact_name, fact_value, items_of, sparse_items, json_line, members_of, object_of}
use Rattle.jb_json.specs.Pieces.{member_after, members_text, number_with, numbers_text, sparse_text, sparse_with, value_text}

-- a part with nothing after it, and then two more, before the rest
three-parts : (part more last rest : List ℕ) → part ++ ((more ++ last) ++ rest) ≡ (((part ++ []) ++ more) ++ last) ++ rest
three-parts part more last rest = sym (
    ap (λ text. ((text ++ more) ++ last) ++ rest) (append-nil part)
    ∙ ap (λ text. text ++ rest) (append_assoc part more last)
    ∙ append_assoc part (more ++ last) rest)

-- the same of one more
two-parts : (part more rest : List ℕ) → part ++ (more ++ rest) ≡ ((part ++ []) ++ more) ++ rest
two-parts part more rest = sym (ap (λ text. (text ++ more) ++ rest) (append-nil part) ∙ append_assoc part more rest)

-- numbers after the first of an array, and its closing bracket
more-numbers : (ns : List ℕ) (rest : List Token)
    → print_from true (items_tokens (items_of ns) ++ rest) ≡ (spelled (map (number_with (codes ",")) ns) ++ codes "]") ++ print_from true rest
unfolding print_from
more-numbers [] rest = refl
more-numbers (n ∷ ns) rest =
    ap (λ text. 44 ∷ (decimal n ++ text)) (more-numbers ns rest)
    ∙ ap (λ text. 44 ∷ text) (three-parts (decimal n) (spelled (map (number_with (codes ",")) ns)) (codes "]") (print_from true rest))

-- the whole array
all-numbers : (ns : List ℕ) (rest : List Token)
    → 91 ∷ print_from false (items_tokens (items_of ns) ++ rest) ≡ numbers_text ns ++ print_from true rest
unfolding print_from
all-numbers [] rest = refl
all-numbers (n ∷ ns) rest =
    ap (λ text. 91 ∷ (decimal n ++ text)) (more-numbers ns rest)
    ∙ ap (λ text. 91 ∷ text) (two-parts (decimal n) (spelled (map (number_with (codes ",")) ns) ++ codes "]") (print_from true rest))

-- numbers of which some are missing, after the first of an array, and its closing bracket
more-sparse : (ns : List (Option ℕ)) (rest : List Token)
    → print_from true (items_tokens (sparse_items ns) ++ rest) ≡ (spelled (map (sparse_with (codes ",")) ns) ++ codes "]") ++ print_from true rest
unfolding print_from
more-sparse [] rest = refl
more-sparse (None ∷ ns) rest =
    ap (λ text. 44 ∷ (null_text ++ text)) (more-sparse ns rest)
    ∙ ap (λ text. 44 ∷ text) (three-parts null_text (spelled (map (sparse_with (codes ",")) ns)) (codes "]") (print_from true rest))
more-sparse (Some n ∷ ns) rest =
    ap (λ text. 44 ∷ (decimal n ++ text)) (more-sparse ns rest)
    ∙ ap (λ text. 44 ∷ text) (three-parts (decimal n) (spelled (map (sparse_with (codes ",")) ns)) (codes "]") (print_from true rest))

-- the whole array
all-sparse : (ns : List (Option ℕ)) (rest : List Token)
    → 91 ∷ print_from false (items_tokens (sparse_items ns) ++ rest) ≡ sparse_text ns ++ print_from true rest
unfolding print_from
all-sparse [] rest = refl
all-sparse (None ∷ ns) rest =
    ap (λ text. 91 ∷ (null_text ++ text)) (more-sparse ns rest)
    ∙ ap (λ text. 91 ∷ text) (two-parts null_text (spelled (map (sparse_with (codes ",")) ns) ++ codes "]") (print_from true rest))
all-sparse (Some n ∷ ns) rest =
    ap (λ text. 91 ∷ (decimal n ++ text)) (more-sparse ns rest)
    ∙ ap (λ text. 91 ∷ text) (two-parts (decimal n) (spelled (map (sparse_with (codes ",")) ns) ++ codes "]") (print_from true rest))

-- the value of a fact
printed-value : (fact : Fact) (rest : List Token)
    → print_from false (json_tokens (fact_value fact) ++ rest) ≡ value_text fact ++ print_from true rest
unfolding print_from
printed-value (Counted name n) rest = refl
printed-value (Bare name n) rest = refl
printed-value (Worded name word) rest = refl
printed-value (Named name None) rest = refl
printed-value (Named name (Some word)) rest = refl
printed-value (Marked name true) rest = refl
printed-value (Marked name false) rest = refl
printed-value (Chosen name true word other) rest = refl
printed-value (Chosen name false word other) rest = refl
printed-value (Listed name each numbers) rest = all-numbers numbers rest
printed-value (Sparse name numbers) rest = all-sparse numbers rest

-- members after the first, and the closing brace
more-members : (facts : List Fact)
    → print_from true (members_tokens (members_of facts)) ≡ spelled (map (member_after (codes ",")) facts) ++ codes "}"
unfolding print_from
more-members [] = refl
more-members (fact ∷ facts) =
    ap (λ text. 44 ∷ ((quoted (fact_name fact) ++ 58 ∷ []) ++ text))
    (printed-value fact (members_tokens (members_of facts)) ∙ ap (λ text. value_text fact ++ text) (more-members facts))
    ∙ simp append_assoc

-- the object
all-members : (facts : List Fact)
    → 123 ∷ print_from false (members_tokens (members_of facts)) ≡ members_text facts ++ codes "}"
unfolding print_from
all-members [] = refl
all-members (fact ∷ facts) =
    ap (λ text. 123 ∷ ((quoted (fact_name fact) ++ 58 ∷ []) ++ text))
    (printed-value fact (members_tokens (members_of facts)) ∙ ap (λ text. value_text fact ++ text) (more-members facts))
    ∙ simp append_assoc

-- the object and the LF
pub object-line : (facts : List Fact) → members_text facts ++ codes "}\n" ≡ json_line facts
unfolding print_from
object-line facts =
    sym (append_assoc (members_text facts) (codes "}") (codes "\n")) ∙ ap (λ text. text ++ codes "\n") (sym (all-members facts))
