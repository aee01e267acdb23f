pub mod Bounds
pub mod Examples
pub mod Headers
pub mod Images
