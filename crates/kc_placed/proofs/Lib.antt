pub mod ListLemmas
pub mod HomeLemmas
pub mod WrittenLemmas
pub mod GoesLemmas
