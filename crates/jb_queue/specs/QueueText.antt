-- A queue text's value.
use Rattle.jb_queue.specs.declared.queue_text.QueueText.{QueueText}
use Rattle.jb_queue.specs.Queue.{Queue}

-- what the fields of a read queue say
abbrev pub value_of : QueueText → Queue
value_of text = record { size = text.bs; limit = text.limit; width = text.width; handles = text.handles.items }
