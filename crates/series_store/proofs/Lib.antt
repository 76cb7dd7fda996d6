pub mod BatchLemmas
pub mod FormatLemmas
pub mod HoldLemmas
pub mod ListLemmas
pub mod OnceLemmas
pub mod TakeLemmas
