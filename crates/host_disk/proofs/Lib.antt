mod NumbersLemmas
pub mod UntoldLemmas
