pub mod Meaning
pub mod Runs
pub mod Counts
pub mod Starts
pub mod Below
pub mod Texts
