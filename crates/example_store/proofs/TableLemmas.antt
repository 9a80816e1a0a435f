-- The slots of a home block: what is found in them, and how a change of one slot changes it.
use Rattle.std.proofs.Common.{◌≡◌, ◌≢◌, ℕ, zero, suc, ◌+◌, ◌*◌, ◌-◌, ◌<◌, ◌≤◌, ◌^◌, Bool, true, false, cond, not, List, [], ◌∷◌, ◌++◌, length, get_or, take, drop, set, nat_eq, Some, None, option_map, refl, sym, ap, ◌∙◌, arith}
use Rattle.std.specs.List.{find, position, position_or_len}
use Rattle.std.proofs.Common.{slice_get}
use Rattle.std.specs.Option.{option_or}
use Rattle.std.proofs.lemmas.Option.{slice_get-get_or, slice_get_past}
use Rattle.std.specs.Int.{w64, from_be_bytes, to_be_bytes}
use Rattle.std.proofs.Common.{append_assoc, append-nil, length-append}
use Rattle.std.proofs.lemmas.Bool.{eqb-true, eq-eqb}
use Rattle.std.proofs.lemmas.Grind.{common_steps, take-set_at}
use Rattle.std.proofs.lemmas.List.{drop-drop, length-take-le, take_all, take_at, take_more}
use Rattle.std.proofs.lemmas.Nat.{from_be_bytes-to_be_bytes_8}
use Rattle.std.proofs.lemmas.List.Folds.{find-append, find_at, find_past, find-set}
use Rattle.std.proofs.lemmas.List.Quantifiers.{position-Some}
use Rattle.example_store.specs.Tables.{ChangesValue, slot_number, slots_in, value_in}
use Rattle.example_store.specs.declared.table.Slot.{Slot}

abbrev pub is : ℕ → Slot → Bool
is key slot = nat_eq slot.key key

abbrev pub free : Slot
free = record { key = 0; value = 0 }

pub apart : (a b : ℕ) → a ≢ b → nat_eq a b ≡ false
apart a b differ = go (nat_eq a b) refl
  where
    go : (v : Bool) → nat_eq a b ≡ v → nat_eq a b ≡ false
    go true e = absurd (differ (eqb-true a b e))
    go false e = e

pub same : (a : ℕ) → nat_eq a a ≡ true
same a = eq-eqb a a refl

module _ (p : Slot → Bool) where
  pub at-first : (xs : List Slot) (i : ℕ) → position p xs ≡ Some i → position_or_len p xs ≡ i
  at-first xs i e = grind (arith, common_steps)

  pub nowhere : (xs : List Slot) → position p xs ≡ None → length xs ≤ position_or_len p xs
  nowhere xs e = grind (arith, common_steps)

  pub found : (xs : List Slot) (i : ℕ) → position_or_len p xs ≡ i → i < length xs → find p xs ≡ Some (get_or xs i free)
  found xs i at within = find_at p xs ∙ ap (slice_get xs) at ∙ slice_get-get_or xs i free within

  pub missed : (xs : List Slot) → length xs ≤ position_or_len p xs → find p xs ≡ None
  missed xs past = find_at p xs ∙ slice_get_past xs _ past

  -- a slot that passes, where none did
  pub find-new : (xs : List Slot) (i : ℕ) (y : Slot) → length xs ≤ position_or_len p xs → i < length xs → p y ≡ true → find p (set xs i y) ≡ Some y
  find-new [] i y none h t = absurd (omega arith)
  find-new (x ∷ xs) zero y none h t = ap (λ b. cond b (Some y) (find p xs)) t
  find-new (x ∷ xs) (suc i) y none h t = by (p x) none (λ k. find-new xs i y k (omega arith) t)
    where
      by : (b : Bool) → suc (length xs) ≤ cond (not b) (1 + position_or_len p xs) 0 → (length xs ≤ position_or_len p xs → find p (set xs i y) ≡ Some y) → cond b (Some x) (find p (set xs i y)) ≡ Some y
      by true k rest = absurd (omega arith)
      by false k rest = rest (omega arith)

-- a slot of this key is set to another key, or freed: what other keys have stays
pub others-stay : (xs : List Slot) (i was other : ℕ) (y : Slot) → is was (get_or xs i free) ≡ true → other ≢ was → other ≢ y.key → value_in (set xs i y) other ≡ value_in xs other
others-stay xs i was other y had old new =
    let key : (get_or xs i free).key ≡ was = eqb-true _ _ had in
    ap (option_map (λ s. s.value)) (find_past (is other) xs i y free
    (apart _ other (λ e. old (sym e ∙ key)))
    (apart y.key other (λ e. new (sym e))))

pub put-own : (xs : List Slot) (i key value : ℕ) → position (is key) xs ≡ Some i → ChangesValue key (Some value) (value_in xs) (value_in (set xs i (record { key = key; value = value })))
put-own xs i key value at =
    let first = position-Some (is key) xs i free at in
    record {
      own = λ _. ap (option_map (λ s. s.value)) (find-set (is key) xs i _ (sym (at-first (is key) xs i at)) first.0 (same key));
      others = λ other some differ. others-stay xs i key other _ first.1 differ differ;
    }

pub put-free : (xs : List Slot) (i key value : ℕ) → position (is key) xs ≡ None → position (is 0) xs ≡ Some i → ChangesValue key (Some value) (value_in xs) (value_in (set xs i (record { key = key; value = value })))
put-free xs i key value none at =
    let first = position-Some (is 0) xs i free at in
    record {
      own = λ _. ap (option_map (λ s. s.value)) (find-new (is key) xs i _ (nowhere (is key) xs none) first.0 (same key));
      others = λ other some differ. others-stay xs i 0 other _ first.1 some differ;
    }

-- ---- the slots of a block, one after the other

abbrev pub slot_in : List ℕ → ℕ → Slot
slot_in bytes at = record { key = slot_number bytes at; value = slot_number bytes (at + 8) }

abbrev mk : ℕ → ℕ → Slot
mk n v = record { key = n; value = v }

pub read-more : (bytes : List ℕ) (slots : List Slot) (at key value : ℕ) → length slots ≡ 64 → at < 64 → key ≡ slot_number bytes (16 * at) → value ≡ slot_number bytes (16 * at + 8)
    → take at slots ++ slots_in (64 - at) (drop (16 * at) bytes) ≡ slots_in 64 bytes
    → take (at + 1) (set slots at (record { key = key; value = value })) ++ slots_in (64 - (at + 1)) (drop (16 * (at + 1)) bytes) ≡ slots_in 64 bytes
unfolding slots_in
read-more bytes slots at key value long before is-key is-value were =
    let new : Slot = record { key = key; value = value } in
    let left : ℕ = 64 - (at + 1) in
    let k : ℕ = 16 * at in
    let one-less : 64 - at ≡ suc left = omega (arith, before) in
    let value-is : slot_number (drop k bytes) 8 ≡ value = ap (λ bs. from_be_bytes w64 (take 8 bs)) (drop-drop 8 k bytes) ∙ sym is-value in
    let slot-is : slot_in (drop k bytes) 0 ≡ new = ap (λ v. mk (slot_number bytes k) v) value-is ∙ ap (λ n. mk n value) (sym is-key) in
    let rest-is : drop 16 (drop k bytes) ≡ drop (16 * (at + 1)) bytes = drop-drop 16 k bytes ∙ ap (λ m. drop m bytes) (omega arith) in
    let step : slots_in (64 - at) (drop k bytes) ≡ new ∷ slots_in left (drop (16 * (at + 1)) bytes) =
    ap (λ n. slots_in n (drop k bytes)) one-less ∙ ap (λ s. s ∷ slots_in left (drop 16 (drop k bytes))) slot-is ∙ ap (λ bs. new ∷ slots_in left bs) rest-is in
    ap (λ front. front ++ slots_in left (drop (16 * (at + 1)) bytes)) (take-set_at slots at (at + 1) new refl (omega (arith, long, before)))
    ∙ append_assoc (take at slots) (new ∷ []) (slots_in left (drop (16 * (at + 1)) bytes))
    ∙ ap (λ rest. take at slots ++ rest) (sym step)
    ∙ were

pub read-all : (bytes : List ℕ) (slots : List Slot) (at : ℕ) → length slots ≡ 64 → at ≡ 64 → take at slots ++ slots_in (64 - at) (drop (16 * at) bytes) ≡ slots_in 64 bytes → slots ≡ slots_in 64 bytes
unfolding slots_in
read-all bytes slots at long end were =
    let all : take at slots ≡ slots = take_all at slots (omega (arith, long, end)) in
    let no-more : 64 - at ≡ 0 = omega (arith, end) in
    let none : slots_in (64 - at) (drop (16 * at) bytes) ≡ [] = ap (λ n. slots_in n (drop (16 * at) bytes)) no-more in
    sym (append-nil slots) ∙ ap (λ front. front ++ []) (sym all) ∙ ap (λ rest. take at slots ++ rest) (sym none) ∙ were

-- ---- the bytes of slots, one after the other

-- up to the end of what was put there
pub take-put : (bytes piece rest : List ℕ) (at n : ℕ) → at ≤ length bytes → length piece ≡ 8 → n ≡ at + 8 → take n (take at bytes ++ (piece ++ rest)) ≡ take at bytes ++ piece
take-put bytes piece rest at n within eight through =
    ap (take n) (sym (append_assoc (take at bytes) piece rest))
    ∙ take_at (take at bytes ++ piece) rest n (omega (arith, length-append (take at bytes) piece, length-take-le at bytes within, eight, through))

-- whatever follows the bytes that are written, they are the first so many slots
abbrev pub Wrote : List Slot → List ℕ → ℕ → Type 0
Wrote slots block at = (n : ℕ) (rest : List ℕ) → slots_in (at + n) (take (16 * at) block ++ rest) ≡ take at slots ++ slots_in n rest

pub first-slot : (n key value : ℕ) (rest : List ℕ) → key < 2 ^ 64 → value < 2 ^ 64 → slots_in (suc n) (to_be_bytes w64 key ++ (to_be_bytes w64 value ++ rest)) ≡ mk key value ∷ slots_in n rest
unfolding slots_in
first-slot n key value rest fits fit =
    ap (λ k. mk k (from_be_bytes w64 (to_be_bytes w64 value)) ∷ slots_in n rest) (from_be_bytes-to_be_bytes_8 key fits)
    ∙ ap (λ v. mk key v ∷ slots_in n rest) (from_be_bytes-to_be_bytes_8 value fit)

pub wrote-more : (slots : List Slot) (old one two : List ℕ) (at key value : ℕ) → at < length slots → 16 * at + 16 ≤ length old → key < 2 ^ 64 → value < 2 ^ 64 → mk key value ≡ get_or slots at free
    → (behind : List ℕ) → one ≡ take (16 * at) old ++ (to_be_bytes w64 key ++ behind) → 16 * at + 16 ≤ length one
    → (after : List ℕ) → two ≡ take (16 * at + 8) one ++ (to_be_bytes w64 value ++ after)
    → Wrote slots old at → Wrote slots two (at + 1)
wrote-more slots old one two at key value within room fits fit is-slot behind one-is room-one after two-is were n rest =
    let k : ℕ = 16 * at in
    let front : List ℕ = take k old in
    let K : List ℕ = to_be_bytes w64 key in
    let V : List ℕ = to_be_bytes w64 value in
    let half : take (k + 8) one ≡ front ++ K = ap (take (k + 8)) one-is ∙ take-put old K behind k (k + 8) (omega (arith, room)) refl refl in
    let whole : take (16 * (at + 1)) two ≡ (front ++ K) ++ V = ap (take (16 * (at + 1))) two-is ∙ take-put one V after (k + 8) (16 * (at + 1)) (omega (arith, room-one)) refl (omega arith) ∙ ap (λ b. b ++ V) half in
    let more : take (at + 1) slots ≡ take at slots ++ mk key value ∷ [] = take_more slots at free within ∙ ap (λ s. take at slots ++ s ∷ []) (sym is-slot) in
    ap (λ b. slots_in (at + 1 + n) (b ++ rest)) whole
    ∙ ap (slots_in (at + 1 + n)) (append_assoc (front ++ K) V rest ∙ append_assoc front K (V ++ rest))
    ∙ ap (λ m. slots_in m (front ++ (K ++ (V ++ rest)))) (omega arith)
    ∙ were (suc n) (K ++ (V ++ rest))
    ∙ ap (λ t. take at slots ++ t) (first-slot n key value rest fits fit)
    ∙ sym (append_assoc (take at slots) (mk key value ∷ []) (slots_in n rest))
    ∙ ap (λ t. t ++ slots_in n rest) (sym more)

pub wrote-all : (slots : List Slot) (block : List ℕ) (at : ℕ) → length slots ≡ 64 → length block ≡ 1024 → at ≡ 64 → Wrote slots block at → slots_in 64 block ≡ slots
unfolding slots_in
wrote-all slots block at long size end were =
    let whole : take (16 * at) block ++ [] ≡ block = append-nil (take (16 * at) block) ∙ take_all (16 * at) block (omega (arith, size, end)) in
    let at-end : 64 ≡ at + 0 = omega (arith, end) in
    ap (λ n. slots_in n block) at-end ∙ ap (slots_in (at + 0)) (sym whole) ∙ were 0 [] ∙ append-nil (take at slots) ∙ take_all at slots (omega (arith, long, end))

-- ---- a key that is taken out

-- of the slots up to here none has the key, and what other keys have stays
pub record Freed (key : ℕ) (old now : List Slot) (at : ℕ) : Type 0 where
  pub others : (other : ℕ) → other ≢ 0 → other ≢ key → value_in now other ≡ value_in old other
  pub gone : key ≢ 0 → find (is key) (take at now) ≡ None

-- a slot more, which has not the key
pub gone-more : (key : ℕ) (now : List Slot) (at : ℕ) (slot : Slot) (next : List Slot) → find (is key) (take at now) ≡ None → nat_eq slot.key key ≡ false → next ≡ take at now ++ slot ∷ [] → find (is key) next ≡ None
gone-more key now at slot next none differs grown =
    ap (find (is key)) grown
    ∙ find-append (is key) (take at now) (slot ∷ [])
    ∙ ap (λ o. option_or o (find (is key) (slot ∷ []))) none
    ∙ ap (λ b. cond b (Some slot) None) differs

pub freed-one : (key : ℕ) (old now : List Slot) (at : ℕ) → at < length now → (get_or now at free).key ≡ key → Freed key old now at → Freed key old (set now at free) (at + 1)
freed-one key old now at within has freed = record {
  others = λ other some differ. others-stay now at key other free (ap (λ k. nat_eq k key) has ∙ same key) differ some ∙ freed.others other some differ;
  gone = λ some. gone-more key now at free (take (at + 1) (set now at free)) (freed.gone some) (apart 0 key (λ e. some (sym e))) (take-set_at now at (at + 1) free refl within);
}

pub freed-none : (key : ℕ) (old now : List Slot) (at : ℕ) → at < length now → (get_or now at free).key ≢ key → Freed key old now at → Freed key old now (at + 1)
freed-none key old now at within has freed = record {
  others = freed.others;
  gone = λ some. gone-more key now at (get_or now at free) (take (at + 1) now) (freed.gone some) (apart _ key has) (take_more now at free within);
}

pub freed-all : (key : ℕ) (old now : List Slot) (at : ℕ) → length now ≤ at → Freed key old now at → ChangesValue key None (value_in old) (value_in now)
freed-all key old now at end freed = record {
  own = λ some. ap (option_map (λ s. s.value)) (ap (find (is key)) (sym (take_all at now end)) ∙ freed.gone some);
  others = freed.others;
}

pub wrote-none : (slots : List Slot) (block : List ℕ) → Wrote slots block 0
wrote-none slots block n rest = let same-number : 0 + n ≡ n = omega arith in ap (λ m. slots_in m rest) same-number
