pub mod LoadLemmas
pub mod FetchLemmas
pub mod WordLemmas
pub mod ContextLemmas
pub mod AccessLemmas
pub mod PassLemmas
pub mod WholeLemmas
