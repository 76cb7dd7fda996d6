mod FilterLemmas
mod MergeLemmas
mod StackLemmas
mod TagLemmas
mod ListedLemmas
mod StagingLemmas
