pub mod FailingLemmas
pub mod MemDesksLemmas
pub mod MomentsLemmas
pub mod Pieces
