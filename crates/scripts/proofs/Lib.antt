pub mod Early
pub mod Runs
