pub mod Symbols
pub mod Says
pub mod Exact
pub mod Back
pub mod Law
