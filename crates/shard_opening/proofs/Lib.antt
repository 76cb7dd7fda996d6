mod FillLemmas
mod FitLemmas
mod KindLemmas
mod OpenedLemmas
mod PlaceLemmas
mod ReadLemmas
mod WholeLemmas
