pub mod Listing
pub mod Lists
