-- What `jb cost` says of a queue text.
use Rattle.std.specs.Prelude.{ℕ, ◌+◌, Bool, not, List, [], ◌∷◌, Option, Some, None, Result, Ok, Err, codes, nat_lt}
use Rattle.std.specs.Prelude.{if◌then◌else◌}
use Rattle.std.specs.Int.{div_ceil}
use Rattle.std.specs.FinSet as set
use Rattle.jb_block.specs.Capacity.{entries_in, tags_in}
use Rattle.jb_block.specs.Size.{bytes_of}
use Rattle.jb_block.specs.Width.{is_wide}
use Rattle.jb_queue.specs.Queue.{Queue, queue_of}
use Rattle.jb_handle.specs.Words.{copies, frees}
use Rattle.jb_queue.specs.declared.fault.QueueFault.{QueueFault}
use Rattle.jb_json.specs.Facts.{Fact, Chosen, Counted}
use Rattle.jb_args.specs.declared.settings.AnswerForm.{AnswerForm}
use Rattle.jb_commands.specs.AnswerForms.{text_in}
use Rattle.jb_commands.specs.QueueFaults.{queue_fault}
use Rattle.jb_commands.specs.AnswerSaid.{Said}

-- how many tags a full descriptor of the queue's journal holds
abbrev pub full_tags : Queue → ℕ
full_tags q = tags_in (is_wide q.width) (bytes_of q.size)

-- how many entries a full revoke block of the queue's journal holds
abbrev pub full_entries : Queue → ℕ
full_entries q = entries_in (is_wide q.width) (bytes_of q.size)

-- the log blocks of the whole queue as one group: the commit block, the copies, the descriptors, the revoke blocks
abbrev pub queue_cost : Queue → ℕ
queue_cost q =
    1 + set.len (copies q.handles) + div_ceil (set.len (copies q.handles)) (full_tags q)
    + div_ceil (set.len (frees q.handles)) (full_entries q)

-- what `jb cost` reports of a cost and a limit, which it is within or not
abbrev pub cost_facts : ℕ → ℕ → Bool → List Fact
cost_facts cost limit fits =
    Counted (codes "cost") cost ∷ Counted (codes "limit") limit
    ∷ Chosen (codes "fits") fits (codes "fits") (codes "over") ∷ []

-- what `jb cost` says of a cost and a limit, in this form
abbrev pub cost_line : AnswerForm → ℕ → ℕ → Said
cost_line form cost limit = record {
  status = if nat_lt limit cost then 1 else 0;
  out = text_in form (cost_facts cost limit (not (nat_lt limit cost)));
  err = [];
  hint = None;
}

-- what `jb cost` says of a queue, or of its first fault
abbrev pub cost_told : AnswerForm → Result Queue QueueFault → Option Said
cost_told form (Ok queue) = Some (cost_line form (queue_cost queue) queue.limit)
cost_told form (Err fault) = queue_fault form fault

-- what `jb cost` says of the bytes of a text
abbrev pub cost_said : AnswerForm → List ℕ → Option Said
cost_said form text = cost_told form (queue_of text)
