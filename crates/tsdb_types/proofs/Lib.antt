pub mod ColumnLemmas
pub mod EscapeLemmas
pub mod KeyLemmas
pub mod ReadingLemmas
pub mod SeriesLemmas
pub mod SpelledLemmas
pub mod SpelledTagLemmas
pub mod TagLemmas
