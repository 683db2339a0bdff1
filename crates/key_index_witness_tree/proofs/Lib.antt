pub mod HeapLemmas
pub mod LeavesLemmas
pub mod SlotLemmas
