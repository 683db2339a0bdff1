pub mod content
pub mod entries
pub mod neighbours
pub mod closures
pub mod keys
pub mod runs
pub mod CallerLemmas
