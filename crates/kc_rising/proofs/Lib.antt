pub mod JoinLemmas
pub mod ListedLemmas
pub mod CellLemmas
