pub mod Blocks
pub mod Readings
pub mod Sizes
