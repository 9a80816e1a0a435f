-- What is said of a hint, by what is said beside its words.
use Rattle.std.proofs.Common.{◌≡◌, ℕ, List, [], Option, subst}
use Rattle.std.specs.Prelude.{option_map}
use Rattle.jb_text.specs.TextParts.{spelled}
use Rattle.jb_args.specs.Advice.{SystemSaid, advice_of, beside_of, hint_text, reason_in, reason_text, said_with}
use Rattle.jb_args.specs.declared.hint.Hint.{Hint}
use Rattle.jb_args.specs.declared.hint.HintArg.{HintArg}

-- where the system says nothing
abbrev pub unsaid : SystemSaid
unsaid = record { text = []; remedy = [] }

-- the parts of a hint are those of its words and of what is said beside
pub hint_said : (said : SystemSaid) (words : List ℕ) (hint : Hint) (beside : HintArg) (advice : List ℕ) (reason : Option (List ℕ))
    → words ≡ advice_of hint → beside ≡ beside_of hint → advice ≡ spelled (said_with said words beside) → reason ≡ option_map spelled (reason_in said beside)
    → (advice ≡ hint_text said hint) × (reason ≡ reason_text said hint)
hint_said said words hint beside advice reason is-words is-beside is-advice is-reason = (
  subst (λ w. advice ≡ spelled (said_with said w (beside_of hint))) is-words (subst (λ b. advice ≡ spelled (said_with said words b)) is-beside is-advice),
  subst (λ b. reason ≡ option_map spelled (reason_in said b)) is-beside is-reason,
)
