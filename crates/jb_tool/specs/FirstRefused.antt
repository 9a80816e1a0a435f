-- Which of the handles that workers have refused is told.
use Rattle.std.specs.Prelude.{Bool, true, false, nat_lt, List, [], ◌∷◌, Option, Some, None}
use Rattle.jb_tool.specs.declared.loading.loaded.Refused.{Refused}

-- the first of two refused handles, unless the test holds: the other one then
abbrev pub earlier_if : Bool → Refused → Refused → Refused
earlier_if true one other = other
earlier_if false one other = one

-- the one of two refused handles that is earlier in the queue
abbrev pub earlier_refused : Option Refused → Option Refused → Option Refused
earlier_refused None other = other
earlier_refused (Some one) None = Some one
earlier_refused (Some one) (Some other) = Some (earlier_if (nat_lt other.handle one.handle) one other)

-- after those of the first workers: the handle that is refused and earliest in the queue
abbrev pub first_after : Option Refused → List (Option Refused) → Option Refused
first_after had [] = had
first_after had (refused ∷ others) = first_after (earlier_refused had refused) others

-- of what each worker has refused, the handle that is earliest in the queue
abbrev pub first_refused : List (Option Refused) → Option Refused
first_refused answers = first_after None answers
