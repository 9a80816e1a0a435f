pub mod CommandLemmas
pub mod HandleLemmas
pub mod NextRuns
pub mod ServeLemmas
pub mod StoreCalls
pub mod StoreKeeps
pub mod TableLemmas
