pub mod Landings
pub mod Hops
pub mod Footings
pub mod Strips
pub mod Turns
pub mod SeekRuns
