mod AcceptLemmas
mod AloneLemmas
pub mod CommitLemmas
pub mod ConflictLemmas
pub mod FieldLemmas
pub mod HeadLemmas
pub mod InLemmas
pub mod KeyListLemmas
pub mod KindLemmas
mod LeftLemmas
pub mod ListLemmas
pub mod MapLemmas
mod OfferLemmas
mod RemovalLemmas
pub mod ResultLemmas
mod RetainLemmas
pub mod RowLemmas
pub mod SampleLemmas
mod SettingLemmas
pub mod TagLemmas
pub mod ViewLemmas
