pub mod ApartLemmas
pub mod ByAddressLemmas
pub mod LoadedLemmas
pub mod SymbolLemmas
pub mod TableLemmas
pub mod TextLemmas
pub mod IndexLemmas
