-- Spans of eight handles, over which a search goes in one step, and the shortcuts of a search.
use Rattle.std.specs.Prelude.{◌≡◌, ℕ, ◌+◌, ◌-◌, ◌*◌, ◌/◌, ◌^◌, ◌<◌, ◌≤◌, List, length, slice_index_or, Option, Some}
use Rattle.std.specs.Prelude.{None}
use Rattle.jb_cost.specs.declared.owned.Owned.{Owned}
use Rattle.jb_cost.specs.declared.group_start.GroupStart.{GroupStart}
use Rattle.jb_cost.specs.declared.span.Span.{Span}
use Rattle.jb_cost.specs.declared.shortcuts.Shortcuts.{Shortcuts}
use Rattle.jb_cost.specs.LastTouch.{owned_at, owned_from, copies_of, frees_of}
use Rattle.jb_cost.specs.Starts.{BestStart, AreIdle, GoBack, AreLeast}

-- the homes with a copy that the handles from i up to an end own
abbrev pub copies_until : List Owned → ℕ → ℕ → ℕ
copies_until os end i = owned_from copies_of os i - owned_from copies_of os end

-- a start, if there is one, whose group costs no more
abbrev pub CostsWithin : ℕ → Option GroupStart → Type 0
CostsWithin most found = (f : GroupStart) → found ≡ Some f → f.cost ≤ most

-- what the handles of the span before an end own; those before the eight are idle
pub record IsSpan (os : List Owned) (end : ℕ) (s : Span) : Type 0 where
  pub back : s.from + 8 ≤ end
  pub within : end ≤ length os
  pub idle : AreIdle os s.from (end - 8)
  pub copies : s.copies + owned_from copies_of os end ≡ owned_from copies_of os s.from
  pub frees : s.frees + owned_from frees_of os end ≡ owned_from frees_of os s.from
  pub small : CostsWithin s.copies s.least

-- its best start, where a group costs as much as there are copies up to the end
abbrev pub IsBestOf : List (Option ℕ) → List Owned → ℕ → Span → Type 0
IsBestOf ps os end s = BestStart (copies_until os end) (2 ^ 62) ps s.from end s.least

-- the span of a place, if it is known
abbrev pub span_at : List (Option Span) → ℕ → Option Span
span_at xs k = slice_index_or xs k None

-- each span that is known is that of the eight handles of its place
abbrev pub AreSpans : List Owned → List (Option Span) → Type 0
AreSpans os xs = (k : ℕ) (s : Span) → span_at xs k ≡ Some s → IsSpan os (8 * k + 8) s

-- each span that is known has its best start
abbrev pub AreBest : List (Option ℕ) → List Owned → List (Option Span) → Type 0
AreBest ps os xs = (k : ℕ) (s : Span) → span_at xs k ≡ Some s → IsBestOf ps os (8 * k + 8) s

-- the handles from one up to another own what they did
abbrev pub OwnTheSame : List Owned → List Owned → ℕ → ℕ → Type 0
OwnTheSame os now from end = (j : ℕ) → from ≤ j → j < end → owned_at now j ≡ owned_at os j

-- as many places, and each span that is known now was known before, and its handles own what they did
pub record KeepSpans (os now : List Owned) (xs ys : List (Option Span)) : Type 0 where
  pub places : length ys ≡ length xs
  pub known : (k : ℕ) (s : Span) → span_at ys k ≡ Some s
      → (span_at xs k ≡ Some s) × OwnTheSame os now s.from (8 * k + 8)

-- a stretch for each handle and a place for each eight of them, and each fits what the handles own
pub record FitOwned (os : List Owned) (k : Shortcuts) : Type 0 where
  pub number : length k.stretches.items ≡ length os
  pub places : length k.spans.items ≡ length os / 8
  pub back : GoBack os k.stretches.items
  pub spans : AreSpans os k.spans.items

-- the stretches and the spans are those of these prices
pub record FitPrices (ps : List (Option ℕ)) (os : List Owned) (k : Shortcuts) : Type 0 where
  pub leasts : AreLeast ps k.stretches.items (length os)
  pub bests : AreBest ps os k.spans.items

-- the shortcuts still fit what the handles own, and the prices that they were of
pub record StillFit (os : List Owned) (was now : Shortcuts) : Type 0 where
  pub owned : FitOwned os now
  pub prices : (ps : List (Option ℕ)) → FitPrices ps os was → FitPrices ps os now
