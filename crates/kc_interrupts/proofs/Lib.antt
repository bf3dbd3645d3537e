pub mod PlaceLemmas
pub mod InsideLemmas
pub mod ChainFloorLemmas
pub mod PushFloorLemmas
