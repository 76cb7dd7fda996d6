pub mod CountLemmas
pub mod SeriesLemmas
pub mod StoreLemmas
