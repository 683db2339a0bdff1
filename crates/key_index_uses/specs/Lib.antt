pub mod Archive
pub mod Exclusion
pub mod Log
pub mod Newest
pub mod Records
