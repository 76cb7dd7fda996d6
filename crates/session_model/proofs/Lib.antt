pub mod TextLemmas
pub mod NameLemmas
pub mod TableLemmas
pub mod ReadableLemmas
pub mod RunLemmas
pub mod HistoryLemmas
pub mod MeaningLemmas
pub mod TranscriptLemmas
