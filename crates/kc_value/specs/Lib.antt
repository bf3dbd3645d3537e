pub mod AbsValue
pub mod Symbol
pub mod Place
pub mod Value
pub mod SymbolLaws
pub mod ValueLaws
pub mod Made
