pub mod StoreLemmas
pub mod GuardLemmas
pub mod ReadsLemmas
pub mod EndLemmas
