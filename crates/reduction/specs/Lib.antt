pub mod Filled
pub mod Chains
pub mod Sorted
pub mod Drawn
