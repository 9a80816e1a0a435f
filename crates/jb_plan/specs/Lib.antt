pub mod Batch
pub mod Costs
pub mod Next
pub mod NoCut
pub mod Plan
pub mod Prepare
pub mod Step
