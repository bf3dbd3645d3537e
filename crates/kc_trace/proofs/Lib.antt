pub mod CutLemmas
mod DigitLemmas
mod EachLemmas
mod FewLemmas
