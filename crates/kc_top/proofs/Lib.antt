pub mod NumberLemmas
pub mod WordsLemmas
pub mod WorkLemmas
pub mod VerdictLemmas
pub mod OutputLemmas
pub mod ReadLemmas
pub mod TraceLemmas
pub mod LoadLemmas
