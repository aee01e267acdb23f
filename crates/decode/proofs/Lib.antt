pub mod Beyond
pub mod Pictures
