pub mod ChoiceLemmas
pub mod NestLemmas
pub mod OrderLemmas
pub mod OverlayLemmas
pub mod StepLemmas
pub mod TurnLemmas
