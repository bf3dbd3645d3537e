pub mod GateLemmas
pub mod UserLemmas
pub mod FaultLemmas
pub mod KernelLemmas
