pub mod Commands
pub mod Handles
pub mod Keeps
pub mod Maps
pub mod NextRun
pub mod Serves
pub mod Tables
