pub mod Attached
pub mod ExtentPlaces
mod ImageCalls
mod JoinedImages
pub mod MakingFaults
pub mod OpenedFile
mod PairCalls
mod PairKept
pub mod PartedLists
pub mod SharedBlocks
pub mod TakenWords
pub mod WordBytes
