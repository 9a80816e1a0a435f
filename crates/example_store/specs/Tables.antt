-- What the bytes of a home block say: which value is at which key.
use Rattle.std.specs.Prelude.{◌≡◌, ◌≢◌, ℕ, zero, suc, List, [], ◌∷◌, take, drop, Option, option_map, nat_eq}
use Rattle.std.specs.Int.{w64, from_be_bytes}
use Rattle.std.specs.List.{find}
use Rattle.example_store.specs.declared.table.Slot.{Slot}

-- the big-endian number in the eight bytes from this one on
abbrev pub slot_number : List ℕ → ℕ → ℕ
slot_number bytes at = from_be_bytes w64 (take 8 (drop at bytes))

-- the first so many slots of a block, of sixteen bytes each: a key and its value
unfoldable pub slots_in : ℕ → List ℕ → List Slot
slots_in zero bytes = []
slots_in (suc n) bytes = record { key = slot_number bytes 0; value = slot_number bytes 8 } ∷ slots_in n (drop 16 bytes)

-- the value of the first slot that has this key
abbrev pub value_in : List Slot → ℕ → Option ℕ
value_in slots key = option_map (λ slot. slot.value) (find (λ slot. nat_eq slot.key key) slots)

-- what the bytes of a home block say at a key: the value of the first of its 64 slots that has this key
abbrev pub value_at : List ℕ → ℕ → Option ℕ
value_at bytes key = value_in (slots_in 64 bytes) key

-- a key has this value, and each other key what it had; 0 is no key, it marks a free slot
pub record ChangesValue (key : ℕ) (value : Option ℕ) (old new : ℕ → Option ℕ) : Type 0 where
  pub own : key ≢ 0 → new key ≡ value
  pub others : (other : ℕ) → other ≢ 0 → other ≢ key → new other ≡ old other
