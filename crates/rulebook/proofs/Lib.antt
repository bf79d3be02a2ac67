pub mod Lists
pub mod Slid
pub mod Kept
pub mod Views
pub mod Reduced
pub mod Copying
pub mod Edits
