pub mod Display
pub mod Refusal
