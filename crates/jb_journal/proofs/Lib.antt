pub mod ChangeAnswers
pub mod ClientNotes
pub mod KnownStays
pub mod RecoveredFile
pub mod RunAsked
pub mod RunEnds
pub mod RunLeaves
