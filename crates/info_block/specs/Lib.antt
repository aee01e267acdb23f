pub mod InfoBlock
pub mod Lists
