pub mod pairs
pub mod buckets
pub mod standing
pub mod bitmap
pub mod keys
pub mod closures
pub mod builds
