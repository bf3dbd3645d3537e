pub mod OrderLemmas
pub mod CrossLemmas
pub mod CheckLemmas
pub mod LayoutLemmas
