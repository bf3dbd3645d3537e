pub mod WidthLemmas
pub mod RowLemmas
