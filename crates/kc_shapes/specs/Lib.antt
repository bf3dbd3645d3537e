pub mod Flat
pub mod Sets
pub mod ShapeLaws
pub mod FlatLaws
pub mod SetLaws
pub mod RowLaws
