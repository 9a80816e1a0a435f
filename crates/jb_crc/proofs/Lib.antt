mod Bits
pub mod Changes
mod EightBytes
pub mod Fits
pub mod Pieces
mod Remainders
mod TableRows
