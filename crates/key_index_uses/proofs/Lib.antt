pub mod CallerLemmas
pub mod ExclusionLemmas
pub mod GapLemmas
pub mod NewestLemmas
pub mod RecordLemmas
pub mod VisitLemmas
