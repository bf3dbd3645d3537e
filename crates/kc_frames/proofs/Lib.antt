mod PaddedLemmas
pub mod OrderLemmas
mod JoinLemmas
pub mod ChangeLemmas
