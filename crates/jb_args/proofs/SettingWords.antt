-- Words one after the other, and what they set.
use Rattle.std.proofs.Common.{◌≡◌, Bool, true, false, cond, not, ◌&&◌, ◌||◌, List, [], ◌∷◌, ◌++◌, Option, None, Some, refl, ap, ◌∙◌, codes}
use Rattle.std.specs.Option.{is_none}
use Rattle.std.specs.List.{cons_option, filter, filter_map, fold}
use Rattle.std.specs.Str.{bytes_eq}
use Rattle.clap.specs.Words.{Text}
use Rattle.jb_args.specs.Settings.{before_end, from_end, setting_of, settings_in, with_found, with_setting, words_left}
use Rattle.jb_args.specs.declared.settings.Setting.{Setting}
use Rattle.jb_args.specs.declared.settings.Settings.{Settings}

-- one setting more comes before those that are left
found-first : (given : Settings) (found : Option Setting) (rest : List Setting)
    → fold with_setting given (cons_option found rest) ≡ fold with_setting (with_found given found) rest
found-first given None rest = refl
found-first given (Some setting) rest = refl

-- the settings of a word and those after it, where it is not the word `--`
pub word-sets : (given : Settings) (word : Text) (words : List Text) → bytes_eq word (codes "--") ≡ false
    → settings_in given (word ∷ words) ≡ settings_in (with_found given (setting_of word)) words
word-sets given word words is =
    ap (λ b. fold with_setting given (filter_map setting_of (cond b [] (word ∷ before_end words)))) is
    ∙ found-first given (setting_of word) (filter_map setting_of (before_end words))

-- a word `--` and those after it set nothing
pub end-sets : (given : Settings) (word : Text) (words : List Text) → bytes_eq word (codes "--") ≡ true
    → settings_in given (word ∷ words) ≡ given
end-sets given word words is =
    ap (λ b. fold with_setting given (filter_map setting_of (cond b [] (word ∷ before_end words)))) is

-- what is left of these words, where they may have settings and where not
abbrev pub left_where : Bool → List Text → List Text
left_where may_set words = cond may_set (words_left words) words

-- the word where it stays
abbrev pub kept_if : Bool → Text → List Text
kept_if stays word = cond stays (word ∷ []) []

-- what is left of a word and those after it, by what the word is
by-word : (may_set end : Bool) (word : Text) (words : List Text)
    → cond may_set
    (filter (λ w. is_none (setting_of w)) (cond end [] (word ∷ before_end words)) ++ cond end (word ∷ words) (from_end words))
    (word ∷ words)
    ≡ cond may_set (cond end (word ∷ words) (cond (is_none (setting_of word)) (word ∷ words_left words) (words_left words))) (word ∷ words)
by-word false end word words = refl
by-word true true word words = refl
by-word true false word words = kept (is_none (setting_of word))
  where
    kept : (b : Bool) → cond b (word ∷ filter (λ w. is_none (setting_of w)) (before_end words)) (filter (λ w. is_none (setting_of w)) (before_end words)) ++ from_end words
        ≡ cond b (word ∷ words_left words) (words_left words)
    kept true = refl
    kept false = refl

by-cases : (may_set end none : Bool) (word : Text) (left words : List Text)
    → cond may_set (cond end (word ∷ words) (cond none (word ∷ left) left)) (word ∷ words)
    ≡ kept_if (not (may_set && not end) || none) word ++ cond (may_set && not end) left words
by-cases false end none word left words = refl
by-cases true true none word left words = refl
by-cases true false true word left words = refl
by-cases true false false word left words = refl

-- what is left of a word and those after it: the word where it stays, and what is left of those
pub word-left : (may_set : Bool) (word : Text) (words : List Text)
    → left_where may_set (word ∷ words)
    ≡ kept_if (not (may_set && not (bytes_eq word (codes "--"))) || is_none (setting_of word)) word
    ++ left_where (may_set && not (bytes_eq word (codes "--"))) words
word-left may_set word words =
    by-word may_set (bytes_eq word (codes "--")) word words
    ∙ by-cases may_set (bytes_eq word (codes "--")) (is_none (setting_of word)) word (words_left words) words

-- the same by what was asked of the word
pub word-left-by : (may_set : Bool) (word : Text) (words : List Text) (may stays : Bool)
    → may ≡ (may_set && not (bytes_eq word (codes "--"))) → stays ≡ (not may || is_none (setting_of word))
    → left_where may_set (word ∷ words) ≡ kept_if stays word ++ left_where may words
word-left-by may_set word words may stays on left = rw (left, on) (word-left may_set word words)

-- of no words none is left
pub none-left : (may_set : Bool) → left_where may_set [] ≡ []
none-left true = refl
none-left false = refl
