-- One handle that was read and run.
use Rattle.std.proofs.Common.{◌≡◌, ℕ, ◌++◌, List, [], ◌∷◌, Option, Some, Result, Ok, Err, IfOk, IfErr, OnErr, subst}
use Rattle.std.specs.FinMap as map
use Rattle.std.specs.declared.alloc.AllocError.{AllocError}
use Rattle.jb_handle.specs.Word.{WordMap}
use Rattle.jb_handle.specs.declared.shape.Shape.{Shape}
use Rattle.jb_handle.specs.declared.stopped.Stopped.{Stopped}
use Rattle.jb_journal.specs.Notes.{Stop}
use Rattle.jb_queue.specs.QueueLines.{HasRead}
use Rattle.jb_queue.specs.declared.queue_lines.HandleReader.{HandleReader}
use Rattle.jb_tool.specs.RefusedHandle.{IsRefusedFor}
use Rattle.jb_tool.specs.Runs.{RunsAt, queued_at}
use Rattle.jb_tool.specs.declared.loading.fault.QueueHandleFault.{QueueHandleFault}

-- the words that were read
pub words-read : (all : List Stopped) (at : ℕ) (reader : HandleReader) (r : Result (Option WordMap) AllocError) (words : WordMap) → r ≡ Ok (Some words) → HasRead all at reader r → words ≡ (queued_at all at).words
words-read all at reader r words is has = let read = subst (HasRead all at reader) is has in read.1 (record { ticket = 0; words = map.empty })

-- the words that were run are those of the handle at the place
pub ran-at : (shape : Shape) (queue : List Stopped) (at : ℕ) (old new : List Stop) (words : WordMap) (r : Result ℕ QueueHandleFault)
    → words ≡ (queued_at queue at).words → IfOk r (λ ticket. new ≡ old ++ (ticket, words) ∷ []) → OnErr r (new ≡ old) → IfErr r (IsRefusedFor shape words) → RunsAt shape queue at old new r
ran-at shape queue at old new words (Ok ticket) is stopped kept why = subst (λ ws. new ≡ old ++ (ticket, ws) ∷ []) is stopped
ran-at shape queue at old new words (Err fault) is stopped kept why = (kept, subst (λ ws. IsRefusedFor shape ws fault) is why)
