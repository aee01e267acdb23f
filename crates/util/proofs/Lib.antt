pub mod Fields
pub mod Numbers
pub mod Parts
pub mod Table
pub mod Takes
