pub mod Answers
pub mod Sample
