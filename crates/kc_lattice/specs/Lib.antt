pub mod Laws
pub mod Pair
pub mod Rows
pub mod PairLaws
pub mod RowLaws
