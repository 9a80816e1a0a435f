-- How a command over texts ends, by what it answers and what was told of that.
use Rattle.std.proofs.Common.{ℕ, List, Option, None, Result, Ok, Err, IfOk, IfErr, inl, inr}
use Rattle.jb_commands.specs.AnswerSaid.{Said, said}
use Rattle.jb_commands.specs.Limits.{cert_limit}
use Rattle.jb_commands.specs.Runs.{EndsAsSaid, EndsOfClaim, EndsOfTwo}
use Rattle.jb_commands.specs.Outputs.{Outputs, Tells, TellsNone}
use Rattle.jb_commands.specs.Texts.{IsText, IsTextWithin, known_behind}
use Rattle.jb_commands.specs.declared.command_output.CommandOutput.{CommandOutput}
use Rattle.jb_commands.specs.declared.program_end.ProgramEnd.{ProgramEnd}
use Rattle.jb_commands.specs.declared.fault.CommandFault.{CommandFault}
use Rattle.jb_commands.specs.declared.fault.CommandFault.TheVariants.{Memory}

-- a command over one text
pub ends_of_answer : {F : Type 0} (Says : List ℕ → Said → Type 0) (name : List ℕ) (input : Option (List ℕ)) (text : List ℕ) (old new : Outputs) (answer : Result CommandOutput F) (end : Result ProgramEnd CommandFault)
    → IsText (known_behind name input) text → IfOk answer (λ a. Says text (said a)) → IfOk answer (λ a. Tells (said a) old new end) → IfErr answer (λ _. TellsNone old new end)
    → EndsAsSaid Says name input old new end
ends_of_answer Says name input text old new (Ok a) end read says tells none = inl (text, said a, read, says, tells)
ends_of_answer Says name input text old new (Err e) end read says tells none = inr (Memory, none.0, tt, none.1)

-- a command over a certificate
pub ends_of_claim : {F : Type 0} (Says : List ℕ → Said → Type 0) (other claim : List ℕ) (old new : Outputs) (answer : Result CommandOutput F) (end : Result ProgramEnd CommandFault)
    → IsTextWithin cert_limit None claim → IfOk answer (λ a. Says claim (said a)) → IfOk answer (λ a. Tells (said a) old new end) → IfErr answer (λ _. TellsNone old new end)
    → EndsOfClaim Says other old new end
ends_of_claim Says other claim old new (Ok a) end read says tells none = inl (claim, said a, read, says, tells)
ends_of_claim Says other claim old new (Err e) end read says tells none = inr (Memory, none.0, tt, none.1)

-- the same, where more is said
pub ends_of_more : (Says More : List ℕ → Said → Type 0) (other : List ℕ) (old new : Outputs) (end : Result ProgramEnd CommandFault)
    → ((claim : List ℕ) (words : Said) → Says claim words → More claim words) → EndsOfClaim Says other old new end → EndsOfClaim More other old new end
ends_of_more Says More other old new end more (inl (claim, words, within, says, tells)) = inl (claim, words, within, more claim words says, tells)
ends_of_more Says More other old new end more (inr none) = inr none

-- a command over two texts, of which the first was read
pub ends_of_two : (Says : List ℕ → List ℕ → Said → Type 0) (name other text : List ℕ) (old new : Outputs) (end : Result ProgramEnd CommandFault)
    → IsText None text → EndsOfClaim (Says text) other old new end → EndsOfTwo Says name other old new end
ends_of_two Says name other text old new end read (inl (claim, words, within, says, tells)) = inl (text, claim, words, read, within, says, tells)
ends_of_two Says name other text old new end read (inr (fault, is, none, same)) = inr (fault, is, inr none, same)
