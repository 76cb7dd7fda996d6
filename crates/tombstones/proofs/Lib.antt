pub mod RangeLemmas
pub mod CoverLemmas
pub mod KeptLemmas
pub mod FewestLemmas
pub mod FormatLemmas
pub mod ReadLemmas
pub mod HidingLemmas
