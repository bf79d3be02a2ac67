pub mod Ends
pub mod Sorting
pub mod Indexing
pub mod Columns
