pub mod RangeLemmas
pub mod RuleLemmas
pub mod FaultLemmas
pub mod FormLemmas
