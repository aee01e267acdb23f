pub mod Attempts
pub mod Counts
pub mod Examples
pub mod Fetches
