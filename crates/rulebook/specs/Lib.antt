pub mod Refusals
pub mod Invariants
pub mod Model
pub mod View
pub mod Reducing
