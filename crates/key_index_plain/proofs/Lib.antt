pub mod EntryLemmas
pub mod ScanLemmas
pub mod IndexLemmas
