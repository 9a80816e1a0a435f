pub mod Accounts
pub mod Conserved
pub mod Postings
