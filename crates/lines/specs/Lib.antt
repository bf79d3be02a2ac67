pub mod Fields
pub mod Numbers
pub mod Faults
pub mod Places
pub mod Texts
