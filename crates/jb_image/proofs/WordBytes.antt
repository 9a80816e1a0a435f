-- The loop over the bytes of a list's word.
use Rattle.std.proofs.Common.{◌≡◌, ◌∙◌, sym, ap, ℕ, ◌+◌, ◌<◌, ◌≤◌, true, false, List, [], ◌∷◌, ◌++◌, length, take, drop, get_or, refl}
use Rattle.std.proofs.lemmas.Bool.{cond_both}
use Rattle.std.proofs.lemmas.List.{append-nil, append_assoc, take_all, take_more, drop_all, drop_more}
use Rattle.jb_text.specs.Parts.{grow}
use Rattle.jb_image.specs.Lists.{is_between, listed}

-- words whose first one has more bytes in front
abbrev pub fronted : List ℕ → List (List ℕ) → List (List ℕ)
fronted front [] = front ∷ []
fronted front (word ∷ more) = (front ++ word) ∷ more

fronted-grow : (front : List ℕ) (b : ℕ) (words : List (List ℕ)) → fronted (front ++ (b ∷ [])) words ≡ fronted front (grow b words)
fronted-grow front b [] = refl
fronted-grow front b (word ∷ more) = ap (λ w. w ∷ more) (append_assoc front (b ∷ []) word)

listed-goes : (b : ℕ) (bs : List ℕ) → is_between b ≡ false → listed (b ∷ bs) ≡ grow b (listed bs)
unfolding listed
listed-goes b bs other = rw other refl

listed-ends : (b : ℕ) (bs : List ℕ) → is_between b ≡ true → listed (b ∷ bs) ≡ [] ∷ listed bs
unfolding listed
listed-ends b bs same = rw same refl

grow-opens : (b : ℕ) (words : List (List ℕ)) → fronted [] (grow b words) ≡ grow b words
grow-opens b [] = refl
grow-opens b (word ∷ more) = refl

pub word-opens : (text : List ℕ) → fronted [] (listed text) ≡ listed text
unfolding listed
word-opens [] = refl
word-opens (b ∷ bs) = cond_both (is_between b) ([] ∷ listed bs) (grow b (listed bs)) (λ words. fronted [] words ≡ words) (λ _. refl) (λ _. grow-opens b (listed bs))

pub word-goes : (text : List ℕ) (at : ℕ) → at < length text → is_between (get_or text at 0) ≡ false
    → fronted (take at text) (listed (drop at text)) ≡ listed text → fronted (take (at + 1) text) (listed (drop (at + 1) text)) ≡ listed text
word-goes text at within other so_far =
    rw (take_more text at 0 within) (fronted-grow (take at text) (get_or text at 0) (listed (drop (at + 1) text))
    ∙ (rw (drop_more text at 0 within, listed-goes (get_or text at 0) (drop (at + 1) text) other) at so_far))

pub word-ends : (text : List ℕ) (at : ℕ) → at < length text → is_between (get_or text at 0) ≡ true
    → fronted (take at text) (listed (drop at text)) ≡ listed text → listed text ≡ take at text ∷ listed (drop (at + 1) text)
word-ends text at within same so_far =
    sym (rw (drop_more text at 0 within, listed-ends (get_or text at 0) (drop (at + 1) text) same, append-nil (take at text)) at so_far)

pub word-last : (text : List ℕ) (at : ℕ) → length text ≤ at → fronted (take at text) (listed (drop at text)) ≡ listed text → listed text ≡ text ∷ []
unfolding listed
word-last text at past so_far = sym (rw (drop_all at text past, append-nil (take at text), take_all at text past) at so_far)
