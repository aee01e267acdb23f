pub mod Displays
pub mod Lengths
