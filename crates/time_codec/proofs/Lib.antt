pub mod FollowingLemmas
pub mod ReadingLemmas
pub mod ScaleLemmas
pub mod TimesLemmas
pub mod WordsLemmas
pub mod EvenlyLemmas
