pub mod Bounds
pub mod Examples
pub mod Listings
pub mod Lists
