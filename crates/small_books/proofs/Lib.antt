pub mod Checked
pub mod Small
