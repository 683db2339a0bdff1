pub mod PrefixLemmas
pub mod GroupingLemmas
pub mod PermutationLemmas
