mod BatchLemmas
mod ClosedLemmas
mod CountLemmas
mod KindLemmas
mod LineLemmas
mod NameLemmas
mod NumberLemmas
pub mod OnceLemmas
pub mod OrderLemmas
mod PartLemmas
mod PlaceLemmas
mod ReadingLemmas
mod SizeLemmas
mod SortedLemmas
mod TextLemmas
mod TokenLemmas
mod WalkLemmas
mod WalkTagLemmas
pub mod WholeLemmas
pub mod WritableLemmas
