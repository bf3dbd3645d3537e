pub mod InsideLemmas
pub mod LeaveLemmas
pub mod WriteLemmas
pub mod CallerLemmas
pub mod EnterLemmas
pub mod EnteredLemmas
pub mod LawLemmas
