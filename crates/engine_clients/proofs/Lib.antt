pub mod BagLemmas
pub mod ComposeLemmas
pub mod EachLemmas
pub mod PassLemmas
pub mod SeatLemmas
pub mod ServedLemmas
pub mod TriedLemmas
pub mod WholeLemmas
