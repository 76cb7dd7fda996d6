pub mod OrderLemmas
pub mod PartLemmas
pub mod TableLemmas
pub mod CountLemmas
pub mod KeptLemmas
pub mod FoundLemmas
