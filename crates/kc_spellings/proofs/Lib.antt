pub mod NumbersLemmas
pub mod RisingLemmas
pub mod NodesExact
pub mod TableExact
pub mod SpellingLemmas
pub mod SpellingLaws
