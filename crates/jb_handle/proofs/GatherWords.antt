-- The words of handles, gathered one after the other.
use Rattle.std.proofs.Common.{◌≡◌, ◌⊎◌, ℕ, zero, suc, ◌+◌, ◌<◌, ◌≤◌, Bool, true, false, cond, nat_eq, T, List, [], ◌∷◌, length, get_or, take, drop, Option, Some, None, is_some, inl, inr, ⊎_elim, refl, sym, ap, ◌∙◌, arith}
use Rattle.std.specs.Option.{option_or}
use Rattle.std.specs.Ordering.{eq_by_cmp, nat_cmp}
use Rattle.std.specs.Cmp.{nat_cmp_total}
use Rattle.std.specs.FinMap as map
use Rattle.std.proofs.lemmas.Bool.{both_ways}
use Rattle.std.proofs.lemmas.Bool.Decides.{nat_tests}
use Rattle.std.proofs.lemmas.List.{drop_more}
use Rattle.jb_handle.specs.declared.word.Word.{Word}
use Rattle.jb_handle.specs.declared.stopped.Stopped.{Stopped}
use Rattle.jb_handle.specs.Word.{WordMap}
use Rattle.jb_handle.specs.Words.{word, words_of}
use Rattle.jb_handle.proofs.LastWord.{or-cond, get-words_of}
use Rattle.jb_handle.proofs.RisingHomes.{find-whole, find-with, none-before, tied-cond}
use Rattle.jb_handle.proofs.Options.{or-none, or-nothing}

get-put : (m n : WordMap) (home : ℕ) (w v : Word) → w ≡ v → n ≡ map.insert m home w → (q : ℕ) → map.get n q ≡ cond (nat_eq q home) (Some v) (map.get m q)
get-put m n home w v same put q = rw (put, map.get-insert nat_cmp_total m home w q, tied-cond q home (Some w) (map.get m q), same) refl

-- one word more of a handle
pub word-more : (es : List (ℕ × Word)) → T (map.is_sorted nat_cmp es) → (i : ℕ) (e : ℕ × Word) → e ≡ get_or es i e → i < length es → (m n : WordMap) (w : Word) → w ≡ e.1 → n ≡ map.insert m e.0 w
    → (q : ℕ) (before : Option Word) → map.get m q ≡ option_or (map.find nat_cmp q (take i es)) before → map.get n q ≡ option_or (map.find nat_cmp q (take (i + 1) es)) before
word-more es rising i e here inside m n w same put q before so_far =
    rw (get-put m n e.0 w e.1 same put q, so_far, find-with es rising i e here inside q) (or-cond (nat_eq q e.0) e.1 (map.find nat_cmp q (take i es)) before)

or-added : (t : Bool) (w : Word) (before found : Option Word) → (t ≡ true → found ≡ None) → option_or (option_or before found) (cond t (Some w) None) ≡ option_or before (cond t (Some w) found)
or-added true w before found none = ap (λ f. option_or (option_or before f) (Some w)) (none refl) ∙ ap (λ x. option_or x (Some w)) (or-nothing before)
or-added false w before found none = or-nothing (option_or before found)

-- one word more of a handle, on a home that has none
pub word-added : (es : List (ℕ × Word)) → T (map.is_sorted nat_cmp es) → (i : ℕ) (e : ℕ × Word) → e ≡ get_or es i e → i < length es → (m n : WordMap) (q : ℕ) (before : Option Word)
    → map.get n q ≡ option_or (map.get m q) (cond (nat_eq q e.0) (Some e.1) None) → map.get m q ≡ option_or before (map.find nat_cmp q (take i es)) → map.get n q ≡ option_or before (map.find nat_cmp q (take (i + 1) es))
word-added es rising i e here inside m n q before put so_far =
    rw (put, so_far, find-with es rising i e here inside q)
    (or-added (nat_eq q e.0) e.1 before (map.find nat_cmp q (take i es)) (λ same. let tied : q ≡ e.0 = grind (arith, nat_tests, same) in rw tied (none-before es rising i e here inside)))

put-by : (t : Bool) (v : Word) (had : Option Word) → (t ≡ true → is_some had ≡ false) → cond t (Some v) had ≡ option_or had (cond t (Some v) None)
put-by true v None none = refl
put-by true v (Some w) none = absurd (both_ways true (none refl) refl)
put-by false v had none = sym (or-nothing had)

-- a word on a home that has none
pub put-added : (m n : WordMap) (home : ℕ) (w v : Word) → w ≡ v → is_some (map.get m home) ≡ false → n ≡ map.insert m home w
    → (q : ℕ) → map.get n q ≡ option_or (map.get m q) (cond (nat_eq q home) (Some v) None)
put-added m n home w v same none put q =
    rw (get-put m n home w v same put q)
    (put-by (nat_eq q home) v (map.get m q) (λ tied. let there : q ≡ home = grind (arith, nat_tests, tied) in rw there none))

-- all words of a handle
pub words-whole : (words : WordMap) (es : List (ℕ × Word)) → es ≡ map.entries words → (i : ℕ) → length es ≤ i → (q : ℕ) (before : Option Word) → option_or (map.find nat_cmp q (take i es)) before ≡ option_or (map.get words q) before
words-whole words es same i whole q before = ap (λ found. option_or found before) (find-whole words es same i q whole)

-- a handle of which an entry was taken has words
pub some-entry : (words : WordMap) (es : List (ℕ × Word)) → es ≡ map.entries words → (i : ℕ) → i < length es → 0 < map.len words
some-entry words es same i inside = let all : map.len words ≡ length es = map.len-entries words ∙ ap length (sym same) in omega (arith, all)

-- an earlier handle's words, where those of the later ones stay
pub handle-earlier : (hs : List Stopped) (i past : ℕ) (h : Stopped) → i + 1 ≡ past → h ≡ get_or hs i h → i < length hs → (m n : WordMap) (q : ℕ)
    → map.get n q ≡ option_or (map.get m q) (map.get h.words q) → map.get m q ≡ word (drop past hs) q → map.get n q ≡ word (drop i hs) q
handle-earlier hs i past h next here inside m n q put so_far =
    rw (put, so_far, ← next, drop_more hs i h inside, ← here) refl

-- all handles
pub handles-whole : (hs : List Stopped) (m : WordMap) → ((q : ℕ) → map.get m q ≡ word hs q) → m ≡ words_of hs
handles-whole hs m so_far = map.same_map nat_cmp_total map.nat_cmp-IsAntisymmetric m (words_of hs) (λ q. so_far q ∙ sym (get-words_of hs q))

-- where no handle has a word on a home, none of them has
none-each : (hs : List Stopped) (i : ℕ) (d : Stopped) (q : ℕ) → i < length hs → word hs q ≡ None → map.get (get_or hs i d).words q ≡ None
none-each [] i d q inside none = absurd (let h : ⊥ = omega arith in h)
none-each (h ∷ hs) zero d q inside none = (or-none (word hs q) (map.get h.words q) none).1
none-each (h ∷ hs) (suc i) d q inside none = none-each hs i d q (omega arith) (or-none (word hs q) (map.get h.words q) none).0

-- handles of which one has words leave some
pub some-words : (hs : List Stopped) (i : ℕ) (h : Stopped) → h ≡ get_or hs i h → i < length hs → 0 < map.len h.words → 0 < map.len (words_of hs)
some-words hs i h here inside some =
    grind (
      arith,
      λ (none : map.len (words_of hs) ≡ 0).
          let nothing : words_of hs ≡ map.empty = map.empty_of_len (words_of hs) none in
          let lacks : (q : ℕ) → word hs q ≡ None = λ q. sym (get-words_of hs q) ∙ ap (λ m. map.get m q) nothing ∙ map.get-empty nat_cmp q in
          let own : (q : ℕ) → map.get h.words q ≡ None = λ q. ap (λ (g : Stopped). map.get g.words q) here ∙ none-each hs i h q inside (lacks q) in
          ap map.len (map.same_map nat_cmp_total map.nat_cmp-IsAntisymmetric h.words map.empty (λ q. own q ∙ sym (map.get-empty nat_cmp q))) ∙ map.len-empty nat_cmp Word,
    )

-- ---- some of the words of a handle

-- of the first entries what is found is what is found of all, or nothing
found-partly : (es : List (ℕ × Word)) (i q : ℕ) → (map.find nat_cmp q (take i es) ≡ None) ⊎ (map.find nat_cmp q (take i es) ≡ map.find nat_cmp q es)
found-partly es zero q = inl refl
found-partly [] (suc i) q = inl refl
found-partly (e ∷ es) (suc i) q =
    let found = λ (b : Bool) (fs : List (ℕ × Word)). cond b (Some e.1) (map.find nat_cmp q fs) in
    elim (eq_by_cmp nat_cmp q e.0) as (λ b. (found b (take i es) ≡ None) ⊎ (found b (take i es) ≡ found b es)) [ true ↦ inr refl | false ↦ found-partly es i q ]

pub words-partly : (words : WordMap) (es : List (ℕ × Word)) → es ≡ map.entries words → (i q : ℕ) (now before : Option Word) → now ≡ option_or before (map.find nat_cmp q (take i es)) → (now ≡ before) ⊎ (now ≡ option_or before (map.get words q))
words-partly words es same i q now before so =
    ⊎_elim
    (λ none. inl (so ∙ ap (option_or before) none ∙ or-nothing before))
    (λ all. inr (so ∙ ap (option_or before) (all ∙ ap (map.find nat_cmp q) same ∙ sym (map.get-entries words q))))
    (found-partly es i q)
