pub mod Totals
pub mod Windows
pub mod Says
pub mod Inner
