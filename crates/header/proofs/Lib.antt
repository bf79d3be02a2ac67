pub mod Reading
pub mod Law
pub mod Behind
