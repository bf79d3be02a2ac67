pub mod Segments
pub mod CutLists
pub mod Sums
pub mod CutListsLemmas
pub mod SegmentsLemmas
