pub mod Export
pub mod Says
pub mod Inner
