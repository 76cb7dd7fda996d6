pub mod Causes
pub mod Closing
pub mod DirectoriesLemmas
pub mod Growing
pub mod SeatsLemmas
pub mod ServingLemmas
pub mod Three
pub mod WordsLemmas
