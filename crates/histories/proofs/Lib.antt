pub mod Parts
pub mod Carrying
pub mod Turns
