pub mod KeptLemmas
pub mod AfterLemmas
