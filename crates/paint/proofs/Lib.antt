pub mod Bytes
pub mod Quads
pub mod Tables
