pub mod CodeLemmas
pub mod HalvingLemmas
pub mod PositionLemmas
pub mod LookupLemmas
pub mod Ranges
pub mod KeyLemmas
pub mod RefusalLemmas
