pub mod Extended
pub mod Pictures
pub mod Rest
