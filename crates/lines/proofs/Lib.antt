pub mod Parts
pub mod Numbers
pub mod Results
pub mod Texts
pub mod Passing
