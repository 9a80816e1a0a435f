pub mod DigitTable
pub mod FaultyLines
pub mod FaultyOps
pub mod Ops
pub mod QueueHandles
pub mod SpelledText
pub mod Walks
pub mod Weights
