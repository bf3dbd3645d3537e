mod WriteLemmas
mod ShareLemmas
mod SpellingLemmas
