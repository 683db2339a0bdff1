pub mod Answers
pub mod Controls
pub mod Immutable
pub mod Line
pub mod Marks
pub mod Program
pub mod Snapshot
pub mod Table
