mod IdLemmas
pub mod StepLemmas
pub mod PairLemmas
mod TermLemmas
mod HoldLemmas
mod CommitLemmas
mod PlaceLemmas
mod ReadyLemmas
mod TellsLemmas
mod MakingLemmas
mod NameLemmas
