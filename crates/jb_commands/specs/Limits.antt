-- How long a queue text and a certificate may be.
use Rattle.std.specs.Prelude.{ℕ, ◌*◌, ◌≤◌, List, length}
use Rattle.jb_args.specs.declared.settings.AnswerForm.TheVariants.{Text}
use Rattle.jb_commands.specs.Plan.{PlanSays}
use Rattle.jb_commands.specs.AnswerSaid.{Said}

-- the most bytes of a queue text
abbrev pub text_limit : ℕ
text_limit = 16777216

-- the most bytes of a certificate: nine for each byte of a queue text
abbrev pub cert_limit : ℕ
cert_limit = 150994944

-- what `jb plan` writes as text for a queue text within its limit has at most nine times the bytes of the text
abbrev pub PlansAreWithin : Type 0
PlansAreWithin =
    (text : List ℕ) (words : Said) → length text ≤ text_limit → PlanSays Text text words
    → length words.out ≤ 9 * length text

-- what `plan` prints for a queue text within its limit is within the limit of a certificate
abbrev pub PlansAreReadable : Type 0
PlansAreReadable =
    (text : List ℕ) (words : Said) → length text ≤ text_limit → PlanSays Text text words → length words.out ≤ cert_limit
