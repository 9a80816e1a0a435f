pub mod Grammar
pub mod Joins
pub mod LineLeft
pub mod Numerals
pub mod PartByPart
pub mod ReadSteps
pub mod Splits
