-- How `jb renumber` and `jb widen` end on a disk.
use Rattle.std.specs.Prelude.{◌⊎◌, ◌≡◌, ℕ, true, List, [], ◌∷◌, Result, Ok, Err, OnOk, codes}
use Rattle.jb_disk.specs.Image.{Image, Only}
use Rattle.jb_disk.specs.KeptOn.{KeptOn}
use Rattle.jb_disk.specs.Time.{LeavesOnly}
use Rattle.jb_json.specs.Facts.{Fact, Chosen, Counted, Marked}
use Rattle.jb_format.specs.Changes.{ChangeFaults}
use Rattle.jb_format.specs.declared.change.ChangeFault.{ChangeFault}
use Rattle.jb_format.specs.declared.change.Renumbered.{Renumbered}
use Rattle.jb_format.specs.declared.change.Widened.{Widened}
use Rattle.jb_commands.specs.Faults.{change_fault}
use Rattle.jb_commands.specs.declared.fault.CommandFault.{CommandFault}
use Rattle.jb_commands.specs.declared.report.Report.{Report}
use Rattle.jb_disk.specs.declared.disk.Disk.{Ghosts as Disks}

-- what a renumbering reports
abbrev pub renumbered_facts : Renumbered → List Fact
renumbered_facts r =
    Marked (codes "renumbered") true ∷ Counted (codes "blocks") r.blocks ∷ Counted (codes "next") r.next ∷ []

-- what a widening reports: also whether the journal was wide before
abbrev pub widened_facts : Widened → List Fact
widened_facts w =
    Chosen (codes "widened") w.changed (codes "widened") (codes "already wide") ∷ Counted (codes "limit") w.limit ∷ []

-- what a change answered, as the command's end: what it reports, or its fault
abbrev pub change_end : {T : Type 0} → (T → Report) → Result T ChangeFault → Result Report CommandFault
change_end report (Ok done) = Ok (report done)
change_end report (Err fault) = Err (change_fault fault)

-- a clean journal on the disk was changed, as the clauses of the change say of its answer, and that answer is reported:
-- what the change does, which images a crash in its midst may leave, and which end in the same image where it is called
-- again
pub record ChangesOn {D T : Type 0} (G : Disks D)
    (Does : ℕ → ℕ → Image → Image → Result T ChangeFault → Type 0) (IsMidst EndsAlike : ℕ → ℕ → Image → Image → Type 0)
    (report : T → Report)
    (old new : D) (end : Result Report CommandFault) : Type 0 where
  pub answer : Result T ChangeFault
  pub kept : KeptOn G (ChangeFaults answer) old new
  pub done : G.honest new → Does (G.size old) (G.count old) (G.newest old) (G.newest new) answer
  pub crash : G.honest new
      → LeavesOnly G.moment G.left_since old new
      (λ c. G.may_leave old c ⊎ IsMidst (G.size old) (G.count old) (G.newest old) c)
  pub again : G.honest new → EndsAlike (G.size old) (G.count old) (G.newest old) (G.newest new)
  pub durable : G.honest new → OnOk answer (Only (G.newest new) (G.may_leave new))
  pub told : end ≡ change_end report answer
