-- What a queue text says whose handles are read when they are asked for.
use Rattle.std.specs.Prelude.{◌≡◌, ℕ, ◌+◌, ◌<◌, ◌≤◌, List, length, get_or, Option, Some, None, Result, Ok, Err}
use Rattle.jb_block.specs.Size.{bytes_of}
use Rattle.std.specs.declared.alloc.AllocError.{AllocError}
use Rattle.jb_handle.specs.declared.stopped.Stopped.{Stopped}
use Rattle.jb_handle.specs.Word.{WordMap}
use Rattle.jb_text.specs.Parts.{lines}
use Rattle.jb_queue.specs.Queue.{Queue, after_lines, handles_of_text}
use Rattle.jb_queue.specs.declared.queue_lines.HandleReader.{HandleReader}
use Rattle.jb_queue.specs.declared.queue_lines.QueueLines.{QueueLines}

-- its handles
unfoldable pub handles_of : QueueLines → List Stopped
handles_of queue = handles_of_text (bytes_of queue.bs) queue.text.items

-- its value
abbrev pub queue_in : QueueLines → Queue
queue_in queue = record { size = queue.bs; limit = queue.limit; width = queue.width; handles = handles_of queue }

-- a reader is after this many of all handles of a queue: after those, the lines that are left give all
pub record StandsAfter (reader : HandleReader) (all : List Stopped) (at : ℕ) : Type 0 where
  pub had : List Stopped
  pub number : length had ≡ at
  pub reads : after_lines (bytes_of reader.bs) had (lines reader.rest.now) ≡ Ok all

-- what a reader gave at a place of a queue, and where it is then: the words of the handle there, if there is one, and
-- it is after that handle
abbrev pub HasRead : List Stopped → ℕ → HandleReader → Result (Option WordMap) AllocError → Type 0
HasRead all at reader (Ok None) = (length all ≤ at) × StandsAfter reader all (length all)
HasRead all at reader (Ok (Some words)) =
    (at < length all) × ((d : Stopped) → words ≡ (get_or all at d).words) × StandsAfter reader all (at + 1)
HasRead all at reader (Err refused) = (at < length all) × StandsAfter reader all (at + 1)
