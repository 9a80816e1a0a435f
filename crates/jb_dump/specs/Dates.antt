-- Dates in UTC, of seconds since 1970.
use Rattle.std.specs.Prelude.{ℕ, zero, suc, ◌+◌, ◌/◌, ◌%◌, Bool, not, ◌&&◌, List, ◌++◌, codes, decimal, nat_eq, nat_lt}
use Rattle.std.specs.Prelude.{if◌then◌else◌, pos}
use Rattle.jiff_core.specs.Calendar.{day_count, days_in_month}
use Rattle.jiff_fmt.specs.Text.{pad2, pad4}

-- a year, a month and a day of the month
pub record DayOf : Type 0 where
  pub year : ℕ
  pub month : ℕ
  pub day : ℕ

-- the days of all years by a number, in their order, as if each month had 31 of them
abbrev pub day_at : ℕ → DayOf
day_at n = record { year = n / 31 / 12; month = n / 31 % 12 + 1; day = n % 31 + 1 }

-- the month has this day, and it is the one this many days after 1970-01-01
abbrev pub is_day : ℕ → DayOf → Bool
is_day days d =
    not (nat_lt (days_in_month (pos d.year) d.month) d.day)
    && nat_eq (day_count (pos d.year) d.month d.day) (day_count (pos 1970) 1 1 + days)

-- of the days with a number below this one, the last that is this many days after 1970-01-01
unfoldable pub day_before : ℕ → ℕ → DayOf
day_before days zero = day_at 0
day_before days (suc n) = if is_day days (day_at n) then day_at n else day_before days n

-- the day this many days after 1970-01-01, up to the year 9999: there is one such day and no other
unfoldable pub date_of : ℕ → DayOf
date_of days = day_before days 3_720_000

-- a day in ISO 8601
abbrev pub day_text : DayOf → List ℕ
day_text d = pad4 d.year ++ codes "-" ++ pad2 d.month ++ codes "-" ++ pad2 d.day

-- the time of a second of a day
abbrev pub clock_text : ℕ → List ℕ
clock_text second = pad2 (second / 3600) ++ codes ":" ++ pad2 (second / 60 % 60) ++ codes ":" ++ pad2 (second % 60)

-- the day and the time of it, in UTC
abbrev pub utc_text : ℕ → List ℕ
utc_text seconds = day_text (date_of (seconds / 86_400)) ++ codes "T" ++ clock_text (seconds % 86_400)

-- a date in UTC and ISO 8601; or the seconds, where they are more than the crate `jiff` has a date for
abbrev pub date_text : ℕ → List ℕ
date_text seconds = if nat_lt 253_402_207_200 seconds then decimal seconds else utc_text seconds ++ codes "Z"
