pub mod EntriesLemmas
pub mod ReachingLemmas
pub mod SendLemmas
pub mod ToldLemmas
pub mod TurnLemmas
