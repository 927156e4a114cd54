pub mod Import
pub mod Says
pub mod Inner
