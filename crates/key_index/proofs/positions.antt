pub mod ImmutableLemmas
pub mod MarkLemmas
pub mod PositionLemmas
pub mod PruneLemmas
