pub mod BuildLemmas
pub mod KeptLemmas
pub mod RecordLemmas
pub mod SnapshotLemmas
