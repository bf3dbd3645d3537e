pub mod ListingLemmas
pub mod SamplesLemmas
pub mod GeneratedLemmas
