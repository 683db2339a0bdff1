pub mod Bytes
pub mod Reading
pub mod Tree
pub mod Verdict
pub mod Witness
