pub mod Entries
pub mod Facts
pub mod Laws
pub mod Objects
pub mod Pieces
pub mod Reports
