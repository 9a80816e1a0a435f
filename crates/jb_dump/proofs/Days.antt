-- The date of a second, as `jiff` writes it.
use Rattle.std.proofs.Common.{◌≡◌, ◌⊎◌, ℕ, zero, suc, ◌+◌, ◌-◌, ◌*◌, ◌/◌, ◌%◌, ◌<◌, ◌≤◌, Bool, true, false, List, [], ◌∷◌, ◌++◌, None, inl, inr, refl, sym, ap, ap₂, ◌∙◌, subst, arith, ℤ, pos, negsuc, not, codes, decimal, nat_eq, nat_lt, if◌then◌else◌}
use Rattle.std.proofs.lemmas.Bool.{and_from, and_parts, cases_order, eq-eqb, eqb-true, le-ltb, ltb-false, not-true, not_from_false, true≢false}
use Rattle.jiff_core.specs.Calendar.{IsCivilDate, day_count, days_from_civil, days_in_month}
use Rattle.jiff_core.specs.DateTime.{civil_nanos}
use Rattle.jiff_core.specs.declared.civil.datetime.DateTime.{DateTime}
use Rattle.jiff_core.specs.declared.timestamp.Timestamp.{Timestamp}
use Rattle.jiff_core.proofs.CalendarLemmas.{day_count-day, day_count-epoch, day_count-lt_month, day_count-lt_year, days_from_civil-day_count, days_in_month_bounds}
use Rattle.jiff_core.proofs.DateLemmas.{civil}
use Rattle.jiff_core.proofs.DateTimeLemmas.{civil_nanos-parts, time_nanos_bound}
use Rattle.jiff_core.proofs.SignedLemmas.{signed_arith}
use Rattle.jiff_fmt.specs.Printer.{IsTimestampText, options}
use Rattle.jiff_fmt.specs.Text.{datetime_text, fraction_part, pad2, year_text, zulu_text}
use Rattle.jiff_fmt.specs.declared.temporal.printer.DateTimePrinter.{DateTimePrinter}
use Rattle.jb_dump.specs.Dates.{DayOf, clock_text, date_of, date_text, day_at, day_before, day_text, is_day, utc_text}

-- a day by its parts
abbrev made : ℕ → ℕ → ℕ → DayOf
made year month day = record { year = year; month = month; day = day }

made-same : (y y' m m' d d' : ℕ) → y ≡ y' → m ≡ m' → d ≡ d' → made y m d ≡ made y' m' d'
made-same y y' m m' d d' a b c = ap₂ (λ i j. made i j d) a b ∙ ap (made y' m') c

-- a day that the calendar has, so many days after 1970-01-01
record IsReal (days y m d : ℕ) : Type 0 where
  has : IsCivilDate (pos y) m d
  count : day_count (pos y) m d ≡ day_count (pos 1970) 1 1 + days

real : (days y m d : ℕ) → y ≤ 9999 → 1 ≤ m → m ≤ 12 → 1 ≤ d → is_day days (made y m d) ≡ true → IsReal days y m d
real days y m d year first last low is =
    let (here, count) = and_parts (not (nat_lt (days_in_month (pos y) m) d)) (nat_eq (day_count (pos y) m d) (day_count (pos 1970) 1 1 + days)) is in
    let within : d ≤ days_in_month (pos y) m = ltb-false _ _ (not-true _ here) in
    record {
      has = (omega (arith, signed_arith, year), (first, last), (low, within));
      count = eqb-true _ _ count;
    }

is-real : (days y m d : ℕ) → IsReal days y m d → is_day days (made y m d) ≡ true
is-real days y m d r =
    and_from _ _ (not_from_false _ (le-ltb (days_in_month (pos y) m) d r.has.2.1)) (eq-eqb _ _ r.count)

-- ---- there is one such day

-- of two days the one that comes first is fewer days after 1970-01-01
count-lt : (y m d y₂ m₂ d₂ : ℕ) → IsCivilDate (pos y) m d → 1 ≤ d₂ → (y < y₂) ⊎ ((y ≡ y₂) × ((m < m₂) ⊎ ((m ≡ m₂) × (d < d₂)))) → day_count (pos y) m d < day_count (pos y₂) m₂ d₂
count-lt y m d y₂ m₂ d₂ is low (inl year) = day_count-lt_year (pos y) m d (pos y₂) m₂ d₂ is low (omega (arith, signed_arith, year))
count-lt y m d y₂ m₂ d₂ is low (inr (year, inl month)) =
    subst (λ z. day_count (pos y) m d < day_count (pos z) m₂ d₂) year (day_count-lt_month (pos y) m d m₂ d₂ is low month)
count-lt y m d y₂ m₂ d₂ is low (inr (year, inr (month, day))) =
    let same : day_count (pos y) m d₂ ≡ day_count (pos y₂) m₂ d₂ = ap₂ (λ z k. day_count (pos z) k d₂) year month in
    omega (arith, same, day, day_count-day (pos y) m d d₂ is.2.0 low)

-- numbers go with days
parts-lt : (k n : ℕ) → k < n → (k / 31 / 12 < n / 31 / 12) ⊎ ((k / 31 / 12 ≡ n / 31 / 12) × ((k / 31 % 12 + 1 < n / 31 % 12 + 1) ⊎ ((k / 31 % 12 + 1 ≡ n / 31 % 12 + 1) × (k % 31 + 1 < n % 31 + 1))))
parts-lt k n lt =
    elim (cases_order (k / 31 / 12) (n / 31 / 12)) [
      | inr (inl year) ↦ inl year
      | inr (inr year) ↦ absurd (omega (arith, lt, year))
      | inl year ↦ elim (cases_order (k / 31 % 12 + 1) (n / 31 % 12 + 1)) [
        | inr (inl month) ↦ inr (year, inl month)
        | inr (inr month) ↦ absurd (omega (arith, lt, year, month))
        | inl month ↦ inr (year, inr (month, omega (arith, lt, year, month)))
      ]
    ]

real-at : (days n : ℕ) → n < 3_720_000 → is_day days (day_at n) ≡ true → IsReal days (n / 31 / 12) (n / 31 % 12 + 1) (n % 31 + 1)
real-at days n few is = real days (n / 31 / 12) (n / 31 % 12 + 1) (n % 31 + 1) (omega (arith, few)) (omega arith) (omega arith) (omega arith) is

never-before : (days k n : ℕ) → k < n → n < 3_720_000 → is_day days (day_at k) ≡ true → is_day days (day_at n) ≡ true → ⊥
never-before days k n lt few one other =
    let a = real-at days k (omega (arith, lt, few)) one in
    let b = real-at days n few other in
    let below = count-lt (k / 31 / 12) (k / 31 % 12 + 1) (k % 31 + 1) (n / 31 / 12) (n / 31 % 12 + 1) (n % 31 + 1) a.has b.has.2.0 (parts-lt k n lt) in
    omega (arith, below, a.count, b.count)

one-day : (days k n : ℕ) → k < 3_720_000 → n < 3_720_000 → is_day days (day_at k) ≡ true → is_day days (day_at n) ≡ true → n ≡ k
one-day days k n here there one other =
    elim (cases_order k n) [
      | inl same ↦ sym same
      | inr (inl lt) ↦ absurd (never-before days k n lt there one other)
      | inr (inr gt) ↦ absurd (never-before days n k gt here other one)
    ]

-- the search comes to it
found : (days k n : ℕ) → k < n → n ≤ 3_720_000 → is_day days (day_at k) ≡ true → day_before days n ≡ day_at k
unfolding day_before
found days k zero lt few is = absurd (omega (arith, lt))
found days k (suc n) lt few is = by (λ below. found days k n below (omega (arith, few)) is) (is_day days (day_at n)) refl
  where
    by : (k < n → day_before days n ≡ day_at k) → (test : Bool) → is_day days (day_at n) ≡ test → (if test then day_at n else day_before days n) ≡ day_at k
    by rest true here = ap day_at (one-day days k n (omega (arith, lt, few)) (omega (arith, few)) is here)
    by rest false here =
        elim (cases_order k n) [
          | inl same ↦ absurd (true≢false (sym is ∙ ap (λ j. is_day days (day_at j)) same ∙ here))
          | inr (inl below) ↦ rest below
          | inr (inr above) ↦ absurd (omega (arith, lt, above))
        ]

date-is : (days y m d : ℕ) → y ≤ 9999 → IsReal days y m d → date_of days ≡ made y m d
unfolding date_of
date-is days y m d year r =
    let most : d ≤ 31 = omega (arith, r.has.2.1, days_in_month_bounds (pos y) m) in
    let first : 1 ≤ m = r.has.1.0 in
    let last : m ≤ 12 = r.has.1.1 in
    let low : 1 ≤ d = r.has.2.0 in
    let k = (y * 12 + (m - 1)) * 31 + (d - 1) in
    let same : day_at k ≡ made y m d = made-same (k / 31 / 12) y (k / 31 % 12 + 1) m (k % 31 + 1) d (omega (arith, first, last, low, most)) (omega (arith, first, last, low, most)) (omega (arith, first, last, low, most)) in
    found days k 3_720_000 (omega (arith, year, first, last, low, most)) (omega arith) (ap (is_day days) same ∙ is-real days y m d r) ∙ same

-- ---- its text

day-written : (days : ℕ) (y : ℤ) (m d : ℕ) → IsCivilDate y m d → day_count y m d ≡ day_count (pos 1970) 1 1 + days
    → year_text y ++ 45 ∷ [] ++ pad2 m ++ 45 ∷ [] ++ pad2 d ≡ day_text (date_of days)
day-written days (pos y) m d is count =
    let year : y ≤ 9999 = omega (arith, signed_arith, is.0) in
    let same : date_of days ≡ made y m d = date-is days y m d year (record { has = is; count = count }) in
    ap day_text (sym same)
day-written days (negsuc n) m d is count =
    absurd (omega (arith, count, day_count-lt_year (negsuc n) m d (pos 1970) 1 1 is (omega arith) (omega (arith, signed_arith))))

-- a clock that shows a second shows no fraction of it
clock-written : (hour minute second part seconds : ℕ) → hour ≡ seconds / 3600 → minute ≡ seconds / 60 % 60 → second ≡ seconds % 60 → part ≡ 0
    → pad2 hour ++ 58 ∷ pad2 minute ++ 58 ∷ pad2 second ++ fraction_part None part ≡ clock_text seconds
clock-written hour minute second part seconds h m s none = rw (h, m, s, none) refl

written : (dt : DateTime) (seconds : ℕ) → civil_nanos dt ≡ pos (seconds * 1_000_000_000) → datetime_text false 84 None dt ≡ utc_text seconds
written dt seconds at =
    let y = dt.date.year in
    let m = dt.date.month in
    let d = dt.date.day in
    let hour = dt.time.hour in
    let minute = dt.time.minute in
    let second = dt.time.second in
    let part = dt.time.subsec_nanosecond in
    let day : days_from_civil y m d ≡ pos (seconds / 86_400) =
    omega (arith, signed_arith, at, civil_nanos-parts dt, time_nanos_bound dt.time) in
    let nanos : (hour * 3600 + minute * 60 + second) * 1_000_000_000 + part ≡ seconds % 86_400 * 1_000_000_000 =
    omega (arith, signed_arith, at, day, civil_nanos-parts dt) in
    let none : part ≡ 0 = omega (arith, nanos, dt.time.subsec_in) in
    let clock : hour * 3600 + minute * 60 + second ≡ seconds % 86_400 = omega (arith, nanos, none) in
    let count : day_count y m d ≡ day_count (pos 1970) 1 1 + seconds / 86_400 =
    omega (arith, signed_arith, day, day_count-epoch, days_from_civil-day_count y m d) in
    ap₂ (λ a b. a ++ 84 ∷ b) (day-written (seconds / 86_400) y m d (civil dt.date) count)
    (clock-written hour minute second part (seconds % 86_400) (omega (arith, clock, dt.time.minute_in, dt.time.second_in)) (omega (arith, clock, dt.time.minute_in, dt.time.second_in))
    (omega (arith, clock, dt.time.minute_in, dt.time.second_in)) none)

-- what a printer writes of the instant of a second that has a date
pub date-written : (p : DateTimePrinter) (t : Timestamp) (seconds : ℕ) (text : List ℕ) → options p ≡ (false, 84, None) → t.nanosecond ≡ pos (seconds * 1_000_000_000)
    → seconds ≤ 253_402_207_200 → IsTimestampText p t text → text ≡ date_text seconds
date-written p t seconds text plain at few h =
    let lower : p.lowercase ≡ false = ap (λ x. x.0) plain in
    let separator : p.separator ≡ 84 = ap (λ x. x.1) plain in
    let precision : p.precision ≡ None = ap (λ x. x.2) plain in
    let date : datetime_text false 84 None h.0 ++ zulu_text false ≡ utc_text seconds ++ codes "Z" = ap (λ shown. shown ++ codes "Z") (written h.0 seconds (h.1 ∙ at)) in
    let there : date_text seconds ≡ utc_text seconds ++ codes "Z" =
    ap (λ test. if test then decimal seconds else utc_text seconds ++ codes "Z") (le-ltb 253_402_207_200 seconds few) in
    rw (h.2, lower, separator, precision) (date ∙ sym there)
