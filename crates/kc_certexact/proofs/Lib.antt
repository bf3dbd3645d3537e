pub mod ExactLemmas
pub mod NumbersExact
pub mod SpacesExact
pub mod ValuesExact
pub mod TimesExact
pub mod SlotsExact
pub mod StatesExact
pub mod KeysExact
