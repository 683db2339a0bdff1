pub mod EntryLemmas
pub mod MapLemmas
