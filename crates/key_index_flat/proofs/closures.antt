pub mod Asked
pub mod TurnLemmas
pub mod KeptLemmas
pub mod VisitLemmas
pub mod PutLemmas
