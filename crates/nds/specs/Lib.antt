pub mod Formats
pub mod Params
pub mod Wrap
