pub mod Bit
pub mod Laws
pub mod Matrix
