pub mod PushLemmas
pub mod PopLemmas
