pub mod ByLayout
pub mod Calls
