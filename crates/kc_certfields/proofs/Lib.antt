mod TimesLemmas
mod SlotLemmas
mod LoopLemmas
pub mod StableLemmas
pub mod FieldsStable
pub mod StatesStable
