pub mod AheadLemmas
pub mod VisitLemmas
