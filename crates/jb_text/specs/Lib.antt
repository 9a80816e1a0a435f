pub mod Lines
pub mod Parts
pub mod Puts
pub mod TextParts
