pub mod Present
pub mod Moments
pub mod Held
pub mod Under
pub mod Reductions
