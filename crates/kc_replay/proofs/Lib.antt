mod ProgressLemmas
mod CountLemmas
mod ScriptLemmas
mod LikeLemmas
mod OnceLemmas
