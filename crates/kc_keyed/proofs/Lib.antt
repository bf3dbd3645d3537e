pub mod AmongLemmas
pub mod FindLemmas
pub mod TiedLemmas
pub mod KeyedLemmas
