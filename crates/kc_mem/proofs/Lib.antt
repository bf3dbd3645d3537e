pub mod BytesLemmas
pub mod PagesLemmas
pub mod PlaceLemmas
pub mod EditLemmas
pub mod NumberLemmas
pub mod MergeLemmas
