pub mod CompletedRows
pub mod Faults
pub mod HintForms
pub mod Numerals
pub mod Rows
pub mod SettingWords
