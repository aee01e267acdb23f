pub mod Examples
pub mod Spellings
