pub mod ClobberSets
pub mod Floors
pub mod Slots
pub mod Padded
pub mod Clobber
pub mod FloorsLaws
pub mod SlotsLaws
pub mod ClobberLaws
