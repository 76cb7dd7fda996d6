pub mod LawLemmas
pub mod MergeLemmas
pub mod PlanLemmas
