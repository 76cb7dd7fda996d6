pub mod LookLemmas
pub mod ServedLemmas
pub mod ShellLemmas
