pub mod lines
pub mod positions
pub mod tables
pub mod snapshots
