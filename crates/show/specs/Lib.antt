pub mod Display
pub mod Show
