pub mod BatchHandles
pub mod SameCosts
pub mod StepTable
