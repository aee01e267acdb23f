pub mod AsksWith
pub mod Cursor
pub mod Walks
