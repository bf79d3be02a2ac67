pub mod Law
pub mod Refused
