pub mod ByLayout
pub mod Sources
