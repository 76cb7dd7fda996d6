pub mod Index
pub mod Matching
pub mod Evaluation
pub mod Merging
pub mod Staging
