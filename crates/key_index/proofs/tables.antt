pub mod TableCopies
pub mod TableLemmas
pub mod TableMaps
pub mod ControlLemmas
