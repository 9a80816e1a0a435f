-- A fault in JSON: what its line and its second line say.
use Rattle.std.specs.Prelude.{ℕ, List, [], ◌∷◌, Option, None, Some, codes}
use Rattle.jb_text.specs.TextParts.{spelled}
use Rattle.jb_json.specs.Facts.{Fact, Listed, Named, Worded}
use Rattle.jb_args.specs.Advice.{SystemSaid, hint_text, reason_text}
use Rattle.jb_commands.specs.FaultLines.{fault_parts, named}
use Rattle.jb_commands.specs.Faults.{fault_words, hint_of}
use Rattle.jb_commands.specs.Lines.{PairNames}
use Rattle.jb_commands.specs.declared.fault.CommandFault.{CommandFault}
use Rattle.jb_commands.specs.declared.streams.fault_line.Numbers.{Numbers}
use Rattle.jb_commands.specs.declared.streams.fault_line.Numbers.TheVariants as numbers

-- the numbers of a fault, in their order
abbrev pub fault_numbers : Numbers → List ℕ
fault_numbers numbers.None = []
fault_numbers (numbers.One number) = number ∷ []
fault_numbers (numbers.Two one two) = one ∷ two ∷ []

-- why the system refused a call, where it did
abbrev pub system_fact : Option (List ℕ) → List Fact
system_fact None = []
system_fact (Some text) = Worded (codes "system") text ∷ []

-- a fault of this name, with its numbers, what is said of it, the file that it is about, where that is known, what to
-- do, and why the system refused a call, where it did
abbrev pub facts_with : List ℕ → List ℕ → List ℕ → Option (List ℕ) → List ℕ → Option (List ℕ) → List Fact
facts_with words ns reason file hint system =
    Named (codes "fault") (Some words) ∷ Listed (codes "numbers") [] ns ∷ Named (codes "file") file
    ∷ Worded (codes "reason") reason ∷ Worded (codes "hint") hint ∷ system_fact system

-- the same, of which is said its name, and its numbers after it
abbrev pub told_facts : List ℕ → Numbers → Option (List ℕ) → List ℕ → Option (List ℕ) → List Fact
told_facts words ns file hint system =
    facts_with words (fault_numbers ns) (spelled (fault_parts words ns)) file hint system

-- a fault of a command: the name, the numbers and the file of its line, and what its second line says, where the
-- system says this
abbrev pub fault_facts : Option PairNames → SystemSaid → CommandFault → List Fact
fault_facts names said fault =
    told_facts (fault_words fault).0 (fault_words fault).1 (named names fault) (hint_text said (hint_of fault))
    (reason_text said (hint_of fault))
