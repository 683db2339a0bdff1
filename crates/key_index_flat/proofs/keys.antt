pub mod PaddingLemmas
pub mod HashingLemmas
