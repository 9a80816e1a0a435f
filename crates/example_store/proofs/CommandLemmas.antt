-- Commands one after another: what they make of a map, their changes, and their replies.
use Rattle.std.proofs.Common.{◌≡◌, ◌≢◌, ℕ, zero, suc, ◌+◌, ◌<◌, ◌≤◌, nat_eq, cond, All, List, [], ◌∷◌, ◌++◌, length, get_or, slice_get, take, drop, Option, Some, None, refl, sym, ap, ap₂, ◌∙◌, arith}
use Rattle.std.proofs.lemmas.List.{length-append, take-append-drop, take-append-le, take_all, take_more}
use Rattle.std.proofs.lemmas.List.Elements.{All-head, All-tail, All-take, filter-append}
use Rattle.std.proofs.lemmas.Option.{same_Some}
use Rattle.example_store.specs.Commands.{HasKey, LeavesKey, after_command, after_commands, changes_among, is_change, replies_to, reply_to}
use Rattle.example_store.specs.Maps.{Mapping, with_value}
use Rattle.example_store.specs.NextRun.{GetFindsPut}
use Rattle.example_store.specs.declared.command.Command.{Command}
use Rattle.example_store.specs.declared.command.Command.TheVariants.{Put, Get, Delete}
use Rattle.example_store.specs.declared.command.Reply.TheVariants.{Found}
use Rattle.example_store.proofs.TableLemmas.{apart, same}

-- ---- one command more

pub after-append : (m : Mapping) (xs : List Command) (c : Command) → after_commands m (xs ++ c ∷ []) ≡ after_command (after_commands m xs) c
after-append m [] c = refl
after-append m (x ∷ xs) c = after-append (after_command m x) xs c

pub replies-append : (m : Mapping) (xs : List Command) (c : Command) → replies_to m (xs ++ c ∷ []) ≡ replies_to m xs ++ reply_to (after_commands m xs) c ∷ []
replies-append m [] c = refl
replies-append m (x ∷ xs) c = ap (λ l. reply_to m x ∷ l) (replies-append (after_command m x) xs c)

-- ---- their changes

-- commands that change nothing may be left out
pub changes-same : (m : Mapping) (xs : List Command) → after_commands m (changes_among xs) ≡ after_commands m xs
changes-same m [] = refl
changes-same m (Put key value ∷ xs) = changes-same (after_command m (Put key value)) xs
changes-same m (Get key ∷ xs) = changes-same m xs
changes-same m (Delete key ∷ xs) = changes-same (after_command m (Delete key)) xs

pub one-change : (c : Command) → length (changes_among (c ∷ [])) ≤ 1
one-change (Put key value) = omega arith
one-change (Get key) = omega arith
one-change (Delete key) = omega arith

module _ (xs : List Command) (i : ℕ) where
  -- those of the first commands are the first of all
  pub take-changes : (many : ℕ) → many ≤ length (changes_among (take i xs)) → take many (changes_among xs) ≡ take many (changes_among (take i xs))
  take-changes many few =
      ap (λ l. take many (changes_among l)) (sym (take-append-drop i xs))
      ∙ ap (take many) (filter-append is_change (take i xs) (drop i xs))
      ∙ take-append-le many (changes_among (take i xs)) (changes_among (drop i xs)) few

  -- and make of a map what these commands make of it
  pub after-made : (m : Mapping) (many : ℕ) → many ≡ length (changes_among (take i xs)) → after_commands m (take many (changes_among xs)) ≡ after_commands m (take i xs)
  after-made m many all =
      ap (after_commands m) (take-changes many (omega (arith, all)) ∙ take_all many (changes_among (take i xs)) (omega (arith, all)))
      ∙ changes-same m (take i xs)

  -- one command more
  module _ (c : Command) (within : i < length xs) (is : c ≡ get_or xs i c) where
    pub take-one : take (i + 1) xs ≡ take i xs ++ c ∷ []
    take-one = take_more xs i c within ∙ ap (λ x. take i xs ++ x ∷ []) (sym is)

    pub changes-more : length (changes_among (take (i + 1) xs)) ≡ length (changes_among (take i xs)) + length (changes_among (c ∷ []))
    changes-more =
        ap (λ l. length (changes_among l)) take-one
        ∙ ap length (filter-append is_change (take i xs) (c ∷ []))
        ∙ length-append (changes_among (take i xs)) (changes_among (c ∷ []))

    pub after-more : (m : Mapping) → after_commands m (take (i + 1) xs) ≡ after_command (after_commands m (take i xs)) c
    after-more m = ap (after_commands m) take-one ∙ after-append m (take i xs) c

    pub replies-more : (m : Mapping) → replies_to m (take (i + 1) xs) ≡ replies_to m (take i xs) ++ reply_to (after_commands m (take i xs)) c ∷ []
    replies-more m = ap (replies_to m) take-one ∙ replies-append m (take i xs) c

-- more commands have no fewer changes
pub changes-rise : (xs : List Command) (i : ℕ) → length (changes_among (take i xs)) ≤ length (changes_among (take (suc i) xs))
changes-rise [] zero = omega arith
changes-rise [] (suc i) = omega arith
changes-rise (c ∷ xs) zero = omega arith
changes-rise (Put key value ∷ xs) (suc i) = let rest = changes-rise xs i in omega (arith, rest)
changes-rise (Get key ∷ xs) (suc i) = changes-rise xs i
changes-rise (Delete key ∷ xs) (suc i) = let rest = changes-rise xs i in omega (arith, rest)

-- ---- maps that agree at all keys

abbrev pub Agree : Mapping → Mapping → Type 0
Agree m n = (key : ℕ) → key ≢ 0 → m key ≡ n key

agree-with : (m n : Mapping) (key : ℕ) (value : Option ℕ) → Agree m n → Agree (with_value m key value) (with_value n key value)
agree-with m n key value agree other some = ap (λ w. cond (nat_eq other key) value w) (agree other some)

agree-after : (m n : Mapping) (c : Command) → Agree m n → Agree (after_command m c) (after_command n c)
agree-after m n (Put key value) agree = agree-with m n key (Some value) agree
agree-after m n (Get key) agree = agree
agree-after m n (Delete key) agree = agree-with m n key None agree

agree-reply : (m n : Mapping) (c : Command) → HasKey c → Agree m n → reply_to m c ≡ reply_to n c
agree-reply m n (Put key value) some agree = refl
agree-reply m n (Get key) some agree = ap (Found key) (agree key some)
agree-reply m n (Delete key) some agree = refl

pub agree-replies : (m n : Mapping) (cs : List Command) → All HasKey cs → Agree m n → replies_to m cs ≡ replies_to n cs
agree-replies m n [] keys agree = refl
agree-replies m n (c ∷ cs) keys agree =
    ap₂ (λ r rs. r ∷ rs) (agree-reply m n c (All-head HasKey c cs keys) agree)
    (agree-replies (after_command m c) (after_command n c) cs (All-tail HasKey c cs keys) (agree-after m n c agree))

-- ---- a key that is put, and one that is left

pub own-value : (m : Mapping) (key : ℕ) (value : Option ℕ) → with_value m key value key ≡ value
own-value m key value = ap (λ b. cond b value (m key)) (same key)

pub other-value : (m : Mapping) (key other : ℕ) (value : Option ℕ) → other ≢ key → with_value m key value other ≡ m other
other-value m key other value differ = ap (λ b. cond b value (m other)) (apart other key differ)

left-one : (m : Mapping) (key : ℕ) (c : Command) → LeavesKey key c → after_command m c key ≡ m key
left-one m key (Put other value) differ = other-value m other key (Some value) differ
left-one m key (Get other) leaves = refl
left-one m key (Delete other) differ = other-value m other key None differ

left-all : (m : Mapping) (key : ℕ) (cs : List Command) → All (LeavesKey key) cs → after_commands m cs key ≡ m key
left-all m key [] each = refl
left-all m key (c ∷ cs) each = left-all (after_command m c) key cs (All-tail (LeavesKey key) c cs each) ∙ left-one m key c (All-head (LeavesKey key) c cs each)

-- what was put is there after commands that leave its key
pub put-there : (m : Mapping) (cs : List Command) (key value k many : ℕ) → slice_get cs k ≡ Some (Put key value) → k < many → All (LeavesKey key) (drop (suc k) cs) → after_commands m (take many cs) key ≡ Some value
put-there m [] key value k many at lt each = absurd (cc)
put-there m (c ∷ cs) key value k zero at lt each = absurd (omega arith)
put-there m (c ∷ cs) key value zero (suc many) at lt each =
    let is : c ≡ Put key value = same_Some c (Put key value) at in
    left-all (after_command m c) key (take many cs) (All-take (LeavesKey key) many cs each)
    ∙ ap (λ x. after_command m x key) is
    ∙ own-value m key (Some value)
put-there m (c ∷ cs) key value (suc k) (suc many) at lt each = put-there (after_command m c) cs key value k many at (omega (arith, lt)) each

-- and a get finds it after such commands
pub found-there : (m : Mapping) (cs : List Command) (key value k : ℕ) → slice_get cs k ≡ Some (Get key) → All (LeavesKey key) (take k cs) → m key ≡ Some value → slice_get (replies_to m cs) k ≡ Some (Found key (Some value))
found-there m [] key value k at each has = absurd (cc)
found-there m (c ∷ cs) key value zero at each has =
    ap (λ x. Some (reply_to m x)) (same_Some c (Get key) at) ∙ ap (λ v. Some (Found key v)) has
found-there m (c ∷ cs) key value (suc k) at each has =
    found-there (after_command m c) cs key value k at (All-tail (LeavesKey key) c (take k cs) each)
    (left-one m key c (All-head (LeavesKey key) c (take k cs) each) ∙ has)

pub get-finds-put : GetFindsPut
get-finds-put m [] key value put get at lt later each = absurd (cc)
get-finds-put m (c ∷ cs) key value put zero at lt later each = absurd (omega arith)
get-finds-put m (c ∷ cs) key value zero (suc get) at lt later each =
    found-there (after_command m c) cs key value get later each
    (ap (λ x. after_command m x key) (same_Some c (Put key value) at) ∙ own-value m key (Some value))
get-finds-put m (c ∷ cs) key value (suc put) (suc get) at lt later each = get-finds-put (after_command m c) cs key value put get at (omega (arith, lt)) later each
