pub mod Advice
pub mod App
pub mod Command
pub mod Completions
pub mod Faults
pub mod PlainCommand
pub mod Rows
pub mod Settings
