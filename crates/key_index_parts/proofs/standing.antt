pub mod StandingLemmas
pub mod SortedBucketLemmas
pub mod LiftLemmas
pub mod MoveLemmas
pub mod PaidLemmas
