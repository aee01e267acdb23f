pub mod Calls
pub mod Prefixes
