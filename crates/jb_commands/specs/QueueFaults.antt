-- What every command over a queue text says of a text with a fault.
use Rattle.std.specs.Prelude.{ℕ, List, [], ◌∷◌, Option, Some, None, codes, decimal, option_map}
use Rattle.jb_args.specs.declared.hint.Hint.{Hint}
use Rattle.jb_args.specs.declared.hint.Hint.TheVariants.{QueueBlockSizeLine, QueueDataWord, QueueHandleLine}
use Rattle.jb_args.specs.declared.hint.Hint.TheVariants.{QueueLimitLine, QueueOpWord}
use Rattle.jb_queue.specs.declared.fault.Cause.{Cause}
use Rattle.jb_queue.specs.declared.fault.Cause.TheVariants.{BlockSizeLine, LimitLine, HandleLine, OpWord, DataWord}
use Rattle.jb_queue.specs.declared.fault.Cause.TheVariants.{Memory}
use Rattle.jb_queue.specs.declared.fault.QueueFault.{QueueFault}
use Rattle.jb_args.specs.declared.settings.AnswerForm.{AnswerForm}
use Rattle.jb_commands.specs.AnswerSaid.{Said}
use Rattle.jb_commands.specs.TextFaults.{text_fault}

-- the name of what is wrong with a line, and its hint; running out of memory is no fault of a text
abbrev pub cause_told : Cause → Option (List ℕ × Hint)
cause_told BlockSizeLine = Some (codes "BlockSizeLine", QueueBlockSizeLine)
cause_told LimitLine = Some (codes "LimitLine", QueueLimitLine)
cause_told HandleLine = Some (codes "HandleLine", QueueHandleLine)
cause_told OpWord = Some (codes "OpWord", QueueOpWord)
cause_told DataWord = Some (codes "DataWord", QueueDataWord)
cause_told Memory = None

-- what is said of a fault with this name and this hint, in this form
abbrev pub fault_line : AnswerForm → ℕ → List ℕ × Hint → Said
fault_line form line cause =
    text_fault form cause.0 (line ∷ []) (codes "queue line " ∷ decimal line ∷ codes ": " ∷ cause.0 ∷ []) cause.1

-- what is said of the text's first fault: its line, its name and its hint
abbrev pub queue_fault : AnswerForm → QueueFault → Option Said
queue_fault form fault = option_map (fault_line form fault.line) (cause_told fault.cause)
