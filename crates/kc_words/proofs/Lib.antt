pub mod FlagLemmas
pub mod SignLemmas
