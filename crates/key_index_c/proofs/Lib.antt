pub mod BufferLemmas
pub mod Crosses
pub mod MaskLemmas
pub mod PositionLemmas
pub mod RangeLemmas
