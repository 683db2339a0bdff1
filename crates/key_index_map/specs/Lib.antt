pub mod Table
pub mod TableLent
pub mod Tags
pub mod MapLent
pub mod RowLent
