pub mod BoardKeeps
pub mod EntryPlaces
pub mod HistoryKeeps
