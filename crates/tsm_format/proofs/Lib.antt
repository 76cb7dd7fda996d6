pub mod FormatLemmas
pub mod EntryLemmas
pub mod RowLemmas
pub mod ReadLemmas
