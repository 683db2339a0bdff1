pub mod NeighbourLemmas
pub mod WalkLemmas
pub mod LeastLemmas
pub mod FullKeyLemmas
pub mod PlaceLemmas
pub mod Nested
pub mod HeldLemmas
