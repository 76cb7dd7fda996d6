pub mod CellKeyLemmas
pub mod EffectLemmas
pub mod FieldLemmas
pub mod FlatLemmas
pub mod HistoryLemmas
pub mod PointLemmas
pub mod StoredLemmas
pub mod TagLemmas
