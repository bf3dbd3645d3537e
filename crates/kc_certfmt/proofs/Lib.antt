pub mod ReadingStable
pub mod MagicLemmas
pub mod ResumeLemmas
pub mod ListLemmas
pub mod FedLemmas
pub mod FileLemmas
