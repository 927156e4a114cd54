pub mod Rule
pub mod Follows
pub mod Says
pub mod Inner
pub mod Pieces
