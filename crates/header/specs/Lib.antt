pub mod CutLine
pub mod Behind
