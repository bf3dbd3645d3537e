mod OrderLemmas
mod PickLemmas
pub mod WrittenLemmas
mod FindLemmas
mod AddLemmas
