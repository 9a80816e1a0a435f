use Rattle.std.proofs.Common.{ℕ, ◌+◌, List, refl, sym, ap, ◌∙◌}
use Rattle.jb_block.specs.Size.{bytes_of}
use Rattle.jb_handle.specs.declared.stopped.Stopped.{Stopped}
use Rattle.jb_text.specs.Parts.{lines}
use Rattle.jb_queue.specs.Queue.{after_lines}
use Rattle.jb_queue.specs.QueueLines.{StandsAfter}
use Rattle.jb_queue.specs.declared.queue_lines.HandleReader.{HandleReader}
use Rattle.jb_queue.proofs.Weights.{lines-walk}
use Rattle.jb_queue.proofs.QueueHandles.{IsAt, Next, next-is, none-left, same-words}
use Rattle.jb_queue.proofs.queue_lines.HandleReader.read.Goals as goal
use Rattle.jb_queue.proofs.queue_lines.HandleReader.read.Goals.{After-read_handle}

-- where a reader stands, its lines are
lines-at : (reader : HandleReader) (all : List Stopped) (at : ℕ) → StandsAfter reader all at → IsAt (bytes_of reader.bs) all at (lines reader.rest.now)
lines-at reader all at placed = record { had = placed.had; number = placed.number; reads = placed.reads }

-- the handle of the line that is read
next : (c : After-read_handle) (all : List Stopped) (at : ℕ) → StandsAfter c.args.self.now all at
    → Next (bytes_of c.args.self.now.bs) all (at + c.args.passed) c.in-Some.line.now (lines c.in-Some.behind.now)
next c all at placed = next-is _ all c.args.passed at _ _ _ (lines-at c.args.self.now all at placed) (sym c.pass_lines-self.ensures ∙ c.in-Some.ensures.parts)

pub returns-in_default : goal.returns-in_default
returns-in_default c = λ all at placed.
    let size = bytes_of c.args.self.now.bs in (
      none-left size all c.args.passed at _ (lines-at c.args.self.now all at placed) (sym c.pass_lines-self.ensures ∙ c.in_default.ensures),
      record { had = all; number = refl; reads = ap (λ ls. after_lines size all ls) c.in_default.ensures ∙ (lines-walk size).ends all },
    )

pub returns-in-Ok : goal.returns-in-Ok
returns-in-Ok c = λ all at placed.
    let next = next (goal.at.returns-in-Ok c).After-read_handle all at placed in
    (next.there, λ d. same-words _ _ _ c.in-Ok.ensures.gives next.read ∙ next.is d, record { had = next.after.had; number = next.after.number; reads = next.after.reads })

pub returns-in-Err : goal.returns-in-Err
returns-in-Err c = λ all at placed.
    let next = next (goal.at.returns-in-Err c).After-read_handle all at placed in
    (next.there, record { had = next.after.had; number = next.after.number; reads = next.after.reads })
