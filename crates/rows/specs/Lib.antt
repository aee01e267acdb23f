pub mod ByLayout
pub mod Rows
