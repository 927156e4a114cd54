pub mod Lending
pub mod Chained
