-- A batch that is out, with what its committer keeps of it.
use Rattle.std.specs.Prelude.{◌≡◌, ℕ, ◌<◌, ◌≤◌, List, length, All}
use Rattle.jb_handle.specs.Word.{WordMap}
use Rattle.jb_plan.specs.Batch.{Gathered}
use Rattle.jb_plan.specs.Costs.{HasCut}
use Rattle.jb_book.specs.CallsToBook.{IsInHistory}
use Rattle.jb_book.specs.Origin.{AreStops, Begun}
use Rattle.jb_book.specs.Rounds.{end_of}
use Rattle.jb_desk.specs.declared.queue_state.batch_out.OutstandingBatch.{OutstandingBatch}

-- The batch has a handle at least, and a cut within the journal's limit. Its handles stopped with words that a handle
-- may stop with, and are in the history that was seen; its tickets are among this many that were given, and they are
-- those that are out, and so is its shape
pub record IsOut (b : Begun) (batch : Gathered) (given : ℕ) (seen : List WordMap) (out : OutstandingBatch)
    : Type 0 where
  pub some : 0 < length batch.handles
  pub cut : HasCut batch.shape batch.handles
  pub stops : AreStops b batch.handles
  pub recorded : All (IsInHistory seen) batch.handles
  pub were_given : end_of batch ≤ given
  pub first_is : batch.first ≡ out.counts.settled
  pub end_is : end_of batch ≡ out.counts.taken
  pub shape_is : batch.shape ≡ out.shape
