pub mod FetchLemmas
pub mod RangeLemmas
pub mod ChainLemmas
