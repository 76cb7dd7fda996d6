pub mod HistoriesLemmas
pub mod OwnedLemmas
pub mod RuleLemmas
