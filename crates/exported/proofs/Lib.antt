pub mod Copies
pub mod Books
