pub mod AnswerLemmas
pub mod TestLemmas
