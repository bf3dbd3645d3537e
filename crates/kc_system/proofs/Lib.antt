pub mod CanonicalLemmas
pub mod BaseLemmas
pub mod MsrLemmas
pub mod RowLemmas
pub mod BreakLemmas
pub mod LawLemmas
