pub mod Faults
pub mod Grammar
pub mod Queue
pub mod QueueLines
pub mod QueueText
