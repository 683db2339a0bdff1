pub mod OpLemmas
pub mod DoneLemmas
pub mod FillLemmas
pub mod RangeLemmas
pub mod AcceptedLemmas
