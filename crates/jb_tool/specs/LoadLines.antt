-- What a load says, in lines and in JSON, and its status.
use Rattle.std.specs.Prelude.{◌≡◌, ℕ, Bool, true, false, ◌&&◌, ◌==◌, is_none, List, [], ◌∷◌, ◌++◌, Option, Some, None}
use Rattle.std.specs.Prelude.{option_map}
use Rattle.std.specs.Prelude.{Result, Ok, Err, codes, decimal}
use Rattle.std.specs.Io.KnownBytes.{Appends}
use Rattle.jb_text.specs.TextParts.{spelled}
use Rattle.jb_json.specs.Facts.{Fact, Counted, Listed, Named, Worded}
use Rattle.jb_json.specs.Objects.{json_line}
use Rattle.jb_json.specs.Reports.{report_lines}
use Rattle.jb_args.specs.Advice.{SystemSaid, hint_text, reason_text}
use Rattle.jb_args.specs.declared.hint.Hint.{Hint}
use Rattle.jb_args.specs.declared.settings.AnswerForm.{AnswerForm}
use Rattle.jb_args.specs.declared.settings.AnswerForm.TheVariants.{Json, Text}
use Rattle.jb_text.specs.Puts.{PutsPart}
use Rattle.jb_text.specs.declared.putting.WriteFault.{WriteFault}
use Rattle.jb_desk.specs.Ends.{is_shut}
use Rattle.jb_desk.specs.declared.ended.Ended.{Ended}
use Rattle.jb_desk.specs.declared.ended.Ended.TheVariants as ended
use Rattle.jb_tool.specs.declared.loading.fault.QueueHandleFault.{QueueHandleFault}
use Rattle.jb_tool.specs.declared.loading.fault.QueueHandleFault.TheVariants.{Aborted, Closed, Busy, TooManyCredits}
use Rattle.jb_tool.specs.declared.loading.fault.QueueHandleFault.TheVariants.{Full, NoCredit, OutOfRange, Length}
use Rattle.jb_tool.specs.declared.loading.fault.QueueHandleFault.TheVariants.{NotOpen, Memory}
use Rattle.jb_tool.specs.declared.loading.loaded.Refused.{Refused}
use Rattle.jb_tool.specs.declared.loading.loaded.Loaded.{Loaded}
use Rattle.jb_tool.specs.declared.loading.telling.LoadPart.{LoadPart}
use Rattle.jb_tool.specs.declared.loading.telling.LoadPart.TheVariants as part

-- what is reported of the counts
abbrev pub load_counts : Loaded → List Fact
load_counts l =
    Counted (codes "handles") l.handles ∷ Counted (codes "changes") l.changes ∷ Counted (codes "settled") l.settled
    ∷ Counted (codes "groups") l.groups
    ∷ Counted (codes "blocks") l.blocks ∷ []

-- the line of the counts
abbrev pub counts_line : Loaded → List ℕ
counts_line l = report_lines (load_counts l)

-- the name of a fault
abbrev pub name_of : QueueHandleFault → List ℕ
name_of Aborted = codes "Aborted"
name_of Closed = codes "Closed"
name_of Busy = codes "Busy"
name_of (TooManyCredits most) = codes "TooManyCredits"
name_of (Full reserved) = codes "Full"
name_of (NoCredit credits) = codes "NoCredit"
name_of (OutOfRange home) = codes "OutOfRange"
name_of Length = codes "Length"
name_of NotOpen = codes "NotOpen"
name_of Memory = codes "Memory"

-- the number that a fault names, where it names one
abbrev pub number_named : QueueHandleFault → Option ℕ
number_named Aborted = None
number_named Closed = None
number_named Busy = None
number_named (TooManyCredits most) = Some most
number_named (Full reserved) = Some reserved
number_named (NoCredit credits) = Some credits
number_named (OutOfRange home) = Some home
number_named Length = None
number_named NotOpen = None
number_named Memory = None

-- the line of a refused handle, from its place, the name of the fault and its number, where it has one
abbrev pub refused_parts : List ℕ → List ℕ → Option ℕ → List ℕ
refused_parts place name None = spelled (codes "jb: handle " ∷ place ∷ codes ": " ∷ name ∷ codes "\n" ∷ [])
refused_parts place name (Some n) =
    spelled (codes "jb: handle " ∷ place ∷ codes ": " ∷ name ∷ codes " " ∷ decimal n ∷ codes "\n" ∷ [])

-- the line of a handle that was refused: its place in the queue, and the fault's name and number
abbrev pub refused_line : Refused → List ℕ
refused_line r = refused_parts (decimal r.handle) (name_of r.fault) (number_named r.fault)

-- the word of a checkpointer that ended Aborted, by how the committer did: it stopped where that one gave up
abbrev pub aborted_word : Ended → List ℕ
aborted_word (ended.Shut over) = codes "Aborted"
aborted_word ended.Aborted = codes "Aborted"
aborted_word ended.Memory = codes "Stopped"
aborted_word ended.Refused = codes "Stopped"

-- how a thread ended that did not end Shut, with this word where it ended Aborted
abbrev pub end_word : List ℕ → Option Ended → Option (List ℕ)
end_word aborted None = None
end_word aborted (Some (ended.Shut over)) = None
end_word aborted (Some ended.Aborted) = Some aborted
end_word aborted (Some ended.Memory) = Some (codes "Memory")
end_word aborted (Some ended.Refused) = Some (codes "Refused")

-- how the committer ended that did not end Shut
abbrev pub commit_word : Loaded → Option (List ℕ)
commit_word l = end_word (codes "Aborted") (Some l.commit)

-- the same of the checkpointer
abbrev pub checkpoint_word : Loaded → Option (List ℕ)
checkpoint_word l = end_word (aborted_word l.commit) l.checkpoint

-- the line of a thread, where it did not end Shut, from how it ended
abbrev pub thread_end_line : List ℕ → Option (List ℕ) → List ℕ
thread_end_line thread None = []
thread_end_line thread (Some word) = spelled (thread ∷ word ∷ codes "\n" ∷ [])

-- its line, where one was refused
abbrev pub refused_text : Option Refused → List ℕ
refused_text None = []
refused_text (Some r) = refused_line r

-- the lines of the threads that did not end Shut
unfoldable pub ends_text : Loaded → List ℕ
ends_text l =
    thread_end_line (codes "jb: commit ") (commit_word l)
    ++ thread_end_line (codes "jb: checkpoint ") (checkpoint_word l)

-- the lines of what did not end well
unfoldable pub faults_text : Loaded → List ℕ
faults_text l = refused_text l.refused ++ ends_text l

-- ---- in JSON

-- the name of the fault of a handle that was refused, if one was
abbrev pub refused_name : Option Refused → Option (List ℕ)
refused_name refused = option_map (λ (r : Refused). name_of r.fault) refused

-- a number where there is one
abbrev pub if_numbered : Option ℕ → List ℕ
if_numbered None = []
if_numbered (Some n) = n ∷ []

-- the place of that handle in the queue, and the fault's number, where it has one
abbrev pub refused_numbers : Option Refused → List ℕ
refused_numbers None = []
refused_numbers (Some r) = r.handle ∷ if_numbered (number_named r.fault)

-- what is reported of what did not end well
abbrev pub load_ends : Loaded → List Fact
load_ends l =
    Named (codes "refused") (refused_name l.refused) ∷ Listed (codes "numbers") [] (refused_numbers l.refused)
    ∷ Named (codes "commit") (commit_word l) ∷ Named (codes "checkpoint") (checkpoint_word l) ∷ []

-- how much a load says: its counts alone, as a line; all of it in JSON, without what to do or with it, and with why the
-- system refused a call
abbrev pub part_text : LoadPart → List ℕ → List ℕ → Loaded → List ℕ
part_text part.Counts hint system l = counts_line l
part_text part.All hint system l = json_line (load_counts l ++ load_ends l)
part_text part.Advised hint system l = json_line (load_counts l ++ (load_ends l ++ Worded (codes "hint") hint ∷ []))
part_text part.Reasoned hint system l =
    json_line (load_counts l ++ (load_ends l ++ Worded (codes "hint") hint ∷ Worded (codes "system") system ∷ []))

-- all that a load says in JSON, with what to do, and why the system refused a call, where it did
abbrev pub advised_text : List ℕ → Option (List ℕ) → Loaded → List ℕ
advised_text hint None l = part_text part.Advised hint [] l
advised_text hint (Some system) l = part_text part.Reasoned hint system l

-- what a load says in JSON, with this hint, where the system says this
abbrev pub json_text : SystemSaid → Option Hint → Loaded → List ℕ
json_text said None l = part_text part.All [] [] l
json_text said (Some hint) l = advised_text (hint_text said hint) (reason_text said hint) l

-- what a load says on standard output, in this form
abbrev pub load_out : AnswerForm → SystemSaid → Option Hint → Loaded → List ℕ
load_out Text said hint l = counts_line l
load_out Json said hint l = json_text said hint l

-- what it says on standard error: in JSON all is on standard output
abbrev pub load_err : AnswerForm → Loaded → List ℕ
load_err Text l = faults_text l
load_err Json l = []

-- a thread that was asked for ended as the desk was over
abbrev pub is_well : Option Ended → Bool
is_well None = true
is_well (Some ended) = is_shut ended

-- no handle was refused, both threads ended as the desk was over, and every handle of the queue is settled
abbrev pub is_whole : Loaded → Bool
is_whole l = is_none l.refused && is_shut l.commit && is_well l.checkpoint && (l.settled == l.queued)

-- the status of a load that ended well, or did not
abbrev pub status_if : Bool → ℕ
status_if true = 0
status_if false = 1

-- what is to be on standard output is there, and on standard error as much as that took; or standard output failed part
-- of the way, and nothing more was written
abbrev pub TellsLoad : AnswerForm → Option Hint → Loaded → Option (List ℕ) → Option (List ℕ) → Option (List ℕ)
    → Option (List ℕ) → Result ℕ WriteFault → Type 0
TellsLoad form hint l out_old out_new err_old err_new (Ok status) =
    ((said : SystemSaid) × Appends out_old out_new (load_out form said hint l))
    × PutsPart err_old err_new (load_err form l)
    × (status ≡ status_if (is_whole l))
TellsLoad form hint l out_old out_new err_old err_new (Err fault) =
    ((said : SystemSaid) × PutsPart out_old out_new (load_out form said hint l)) × (err_new ≡ err_old)
